-- A text of at most 4,096 bytes has its whole report in 65,536 bytes.
use Rattle.std.specs.Prelude.{ℕ, zero, suc, ◌+◌, ◌*◌, ◌-◌, ◌/◌, ◌≤◌, ◌<◌, ◌≡◌, List, [], ◌∷◌, ◌++◌, length, take}
use Rattle.std.proofs.Math.Decide.{dec_lt}
use Rattle.std.proofs.Common.{arith, ap, ◌∙◌, length-append}
use Rattle.orm.specs.LineReader.{NextLine, no_line, line_at, next_line, position_after}
use Rattle.orm.specs.Text.{bytes, decimal, separator, values_text, line_text}
use Rattle.reading.specs.Decimal.{decimal-small, decimal-large}
use Rattle.buffer.specs.Written.{WroteAll}
use Rattle.buffer.specs.Laws.{wrote-front}
use Rattle.lines.specs.Laws.NextLine.{NextIs, none_left, line, next-is, line-inside}
use Rattle.lines_main.specs.Report.{entry, left_text, report_within, report}

-- ---- a number below 10,000 has at most 4 digits

AtMost : ℕ → ℕ → Type 0
AtMost k m = (n : ℕ) → n < m → length (decimal n) ≤ k

one-digit : AtMost 1 10
unfolding AtMost
one-digit n h = let e : length (decimal n) ≡ 1 = ap length (decimal-small n h) in omega (arith, e)

one_more : (k m : ℕ) → 1 ≤ k → AtMost k m → AtMost (suc k) (10 * m)
unfolding AtMost
one_more k m some few n h = go (dec_lt n 10)
  where
    go : Dec (n < 10) → length (decimal n) ≤ suc k
    go (yes small) = let e : length (decimal n) ≡ 1 = ap length (decimal-small n small) in omega (arith, e)
    go (no large) =
        let l : 10 ≤ n = omega (arith, large) in
        let e : length (decimal n) ≡ length (decimal (n / 10)) + 1 = ap length (decimal-large n l) ∙ length-append (decimal (n / 10)) _ in
        let q : n / 10 < m = omega arith in
        omega (arith, e, few (n / 10) q)

four-digits : (n : ℕ) → n < 10000 → length (decimal n) ≤ 4
unfolding AtMost
four-digits n h = one_more 3 1000 (omega arith) (one_more 2 100 (omega arith) (one_more 1 10 (omega arith) one-digit)) n h

-- ---- so an entry has at most 15 bytes

entry-short : (a b c d start n : ℕ) → start < 10000 → n < 10000 → length (entry (a ∷ b ∷ c ∷ d ∷ []) start n) ≤ 15
unfolding entry values_text separator
entry-short a b c d start n hs hn =
    let e : length (decimal start ++ 44 ∷ (decimal n ++ 10 ∷ [])) ≡ length (decimal start) + suc (length (decimal n ++ 10 ∷ [])) =
    length-append (decimal start) (44 ∷ (decimal n ++ 10 ∷ [])) in
    let f : length (decimal n ++ 10 ∷ []) ≡ length (decimal n) + 1 = length-append (decimal n) (10 ∷ []) in
    omega (arith, e, f, four-digits start hs, four-digits n hn)

left-short : (text : List ℕ) (offset : ℕ) → length text ≤ 4096 → offset ≤ length text → length (left_text text offset) ≤ 15
unfolding left_text entry line_text bytes
left-short text offset short inside = entry-short 108 101 102 116 offset (length text - offset) (omega arith) (omega arith)

-- What one call tells, before the report of k more
abbrev add : ℕ → List ℕ → ℕ → NextLine → List ℕ
add k text offset y =
    elim y [
      | no_line ↦ left_text text offset
      | line_at start n ↦ line_text "line" (start ∷ n ∷ []) ++ report_within k text (position_after (line_at start n) offset)
    ]

within-short : (k : ℕ) (text : List ℕ) (offset : ℕ) → length text ≤ 4096 → offset ≤ length text
    → length (report_within k text offset) ≤ 15 * suc k
unfolding report_within position_after entry line_text bytes
within-short zero text offset short inside = left-short text offset short inside
within-short (suc k) text offset short inside = go (next_line text offset) (next-is text offset) (λ p h. within-short k text p short h)
  where
    go : (y : NextLine) → NextIs text offset y → ((p : ℕ) → p ≤ length text → length (report_within k text p) ≤ 15 * suc k)
        → length (add k text offset y) ≤ 15 * suc (suc k)
    go y (none_left _) ih = let l = left-short text offset short inside in omega (arith, l)
    go y (line n r) ih =
        let l = line-inside text offset n r in
        let hs : offset < 10000 = omega arith in
        let hn : n < 10000 = omega (arith, l) in
        let hp : offset + n + 1 ≤ length text = omega (arith, l) in
        omega (
          arith,
          length-append (line_text "line" (offset ∷ n ∷ [])) (report_within k text (offset + n + 1)),
          entry-short 108 105 110 101 offset n hs hn,
          ih (offset + n + 1) hp,
        )

-- The theorem: what is written is the report
pub report-whole : (text o o' : List ℕ) (to : ℕ) → length text ≤ 4096 → 65536 ≤ length o
    → WroteAll o (report text) o' to → take to o' ≡ report text
unfolding report
report-whole text o o' to short room w =
    let l : length (report text) ≤ 15 * suc (length text) = within-short (length text) text 0 short (omega arith) in
    let fits : length (report text) ≤ length o = omega (arith, l) in
    wrote-front w fits
