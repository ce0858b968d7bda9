-- What the header's reads answer is what the file's bytes say.
use Rattle.project.proofs.SitesRead.{accepted_sites}
use Rattle.report.proofs.Accepted.{fillable, filled_meets}
use Rattle.report.proofs.fill.fill.Goals as goal

pub header_in-header-requires : goal.header_in-header-requires
header_in-header-requires c =
    let a = c.requires in
    (accepted_sites _ a.sites a.scanned).long

pub count_in-sites-requires : goal.count_in-sites-requires
count_in-sites-requires c =
    let a = c.requires in
    (accepted_sites _ a.sites a.scanned).long

pub fill_lines-requires : goal.fill_lines-requires
fill_lines-requires c =
    let a = c.requires in
    fillable _ a.sites a.scanned _ _ c.header_in-header.ensures c.count_in-sites.ensures _ a.room_for

pub returns : goal.returns
returns c =
    let a = c.requires in
    let met =
    filled_meets _ a.sites a.scanned _ _ c.header_in-header.ensures c.count_in-sites.ensures c.args.report.now _ a.room_for
    c.fill_lines.ensures in
    record { report_after = met.0; demand = met.1 }
