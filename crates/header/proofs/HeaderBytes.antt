-- Laws of HeaderBytes in specs/.
use Rattle.std.specs.Prelude.{◌≡◌, refl, true, List, ◌∷◌, ◌++◌, ℕ}
use Rattle.std.proofs.Common.{arith}
use Rattle.site.specs.Writing.{two_bytes}
use Rattle.site.specs.Digits.{Bytes, two_bytes_lem}
use Rattle.site.specs.Bytes.{bytes_cons, bytes_append, two_bytes_of}
use Rattle.header.specs.declared.Header.{Header}
use Rattle.site.specs.Rules.{edition_known}
use Rattle.header.specs.Layout.{BytesByHeader}
use Rattle.header.specs.Header.{header_in, count_in, admits, header_bytes}
use Rattle.header.proofs.HeaderLaws.{admitted, tests_accept}
use Rattle.header.specs.HeaderLaws.{edition_few}
use Rattle.header.specs.HeaderBytes.{HeaderRead}

-- WHAT IS WRITTEN is, byte for byte, what the values are by byte number
pub bytes_by_header : (header : Header) (sites : ℕ) → BytesByHeader header sites (header_bytes header sites)
bytes_by_header header sites = record {
  eight = refl;
  byte_0 = refl;
  byte_1 = refl;
  byte_2 = refl;
  byte_3 = refl;
  byte_4 = refl;
  byte_5 = refl;
  byte_6 = refl;
  byte_7 = refl;
}

module _ (header : Header) (sites : ℕ) (known : edition_known header.edition ≡ true) (e : admits header sites ≡ true) where
  -- values within their limits are read as they were written, whatever follows them
  pub written_header : (rest : List ℕ) → HeaderRead header sites (header_bytes header sites ++ rest)
  written_header rest =
      let header_same : header_in (header_bytes header sites ++ rest) ≡ header = rw (two_bytes_lem header.segments, two_bytes_lem header.crossings) in
      let count_same : count_in (header_bytes header sites ++ rest) ≡ sites = two_bytes_lem sites in
      record {
        header_is = header_same;
        count_is = count_same;
        accepted = tests_accept _ (omega arith) known (rw (header_same, count_same) e);
      }

  -- they fit their bytes
  pub header_bytes_lem : Bytes (header_bytes header sites)
  header_bytes_lem =
      let a = admitted header sites e in
      let segments = two_bytes header.segments in
      let crossings = two_bytes header.crossings in
      let fits = two_bytes_of header.segments (omega (arith, a.within)) in
      let fits' = two_bytes_of header.crossings (omega (arith, a.within)) in
      let later = bytes_append crossings (two_bytes sites) fits' (two_bytes_of sites (omega (arith, a.few))) in
      let words = bytes_append segments (crossings ++ two_bytes sites) fits later in
      let years = bytes_cons header.years (segments ++ crossings ++ two_bytes sites) (omega (arith, a.within)) words in
      bytes_cons header.edition (header.years ∷ (segments ++ crossings ++ two_bytes sites)) (omega (arith, edition_few header.edition known)) years
