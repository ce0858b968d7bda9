-- What the program prints, as bytes: "prints the report in decimal, four numbers a line with single spaces, totals last; a refusal
-- prints one line". "Every printed line ends in a line feed."
use Rattle.std.specs.Prelude.{ℕ, zero, suc, ◌+◌, ◌/◌, ◌%◌, cond, List, [], ◌∷◌, ◌++◌, ltb}

-- the code of a digit, of a space and of a line feed
abbrev pub digit : ℕ → ℕ
digit d = 48 + d

abbrev pub space : ℕ
space = 32

abbrev pub line_feed : ℕ
line_feed = 10

-- a number below ten is its digit; any other is the text of its tenth part and its last digit. No number has more digits than units
unfoldable pub decimal_within : (most n : ℕ) → List ℕ
decimal_within zero n = []
decimal_within (suc most) n = cond (ltb n 10) (digit n ∷ []) (decimal_within most (n / 10) ++ (digit (n % 10) ∷ []))

unfoldable pub decimal_text : ℕ → List ℕ
decimal_text n = decimal_within (suc n) n

-- a number and the byte that ends it
abbrev pub ended_text : (n end : ℕ) → List ℕ
ended_text n end = decimal_text n ++ (end ∷ [])

-- "four numbers a line with single spaces"
unfoldable pub line_text : (a b c d : ℕ) → List ℕ
line_text a b c d = ended_text a space ++ (ended_text b space ++ (ended_text c space ++ ended_text d line_feed))

-- the lines of a report, its totals last; a report has four numbers for each line
unfoldable pub report_text : List ℕ → List ℕ
report_text (a ∷ b ∷ c ∷ d ∷ numbers) = line_text a b c d ++ report_text numbers
report_text (a ∷ b ∷ c ∷ []) = []
report_text (a ∷ b ∷ []) = []
report_text (a ∷ []) = []
report_text [] = []

-- `refused `
abbrev pub refused_word : List ℕ
refused_word = 114 ∷ 101 ∷ 102 ∷ 117 ∷ 115 ∷ 101 ∷ 100 ∷ 32 ∷ []

-- `at `
abbrev pub at_word : List ℕ
at_word = 97 ∷ 116 ∷ 32 ∷ []

-- "empty input gives `refused 1 at 0`"
unfoldable pub refusal_text : (number place : ℕ) → List ℕ
refusal_text number place = refused_word ++ (ended_text number space ++ (at_word ++ ended_text place line_feed))
