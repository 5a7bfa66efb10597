-- The report on its way: what is written, and what the calls to come have still to write.
use Prim.Native.Nat.{ℕ, zero, suc, ◌+◌, ◌-◌, ◌≤◌, ◌<◌}
use native.Mathlib.Omega.{arith}
use mathlib.Core.Path.{◌≡◌, refl, sym, ap, subst}
use mathlib.Core.List.{List, [], ◌∷◌, ◌++◌, append-nil}
use lib.ListN.{length}
use Rattle.orm.specs.LineReader.{no_line, line_at, next_line, position_after}
use Rattle.orm.specs.Text.{bytes, line_text}
use Rattle.buffer.specs.declared.output.Output.{Output}
use Rattle.buffer.specs.Written.{Wrote, Writing}
use Rattle.buffer.specs.Laws.{writing_start, writing_more, writing_all}
use Rattle.lines.specs.Answers.{step_from}
use Rattle.lines.specs.Laws.Answers.{StandsAt, line-stands, line-none, step_past}
use Rattle.lines.specs.declared.Step.{Step}
use Rattle.lines.specs.declared.Line.TheVariants.{At, Nothing}
use Rattle.lines_main.specs.Report.{entry, left_text, report_within, report}

-- `line` and `left`
abbrev line_key : List ℕ
line_key = 108 ∷ 105 ∷ 110 ∷ 101 ∷ []

abbrev left_key : List ℕ
left_key = 108 ∷ 101 ∷ 102 ∷ 116 ∷ []

-- From `o₀` on the report of the text is being written: now the output is `o`, and the lines before the offset are told
pub record Reporting (text : List ℕ) (o₀ o : Output ℕ) (offset : ℕ) : Type 0 where
  pub calls : ℕ
  pub enough : length text ≤ offset + calls
  pub inside : offset ≤ length text
  pub writing : Writing o₀ (report text) o (report_within calls text offset)

-- ---- the report from an offset, by what the next call gives

report-line : (k : ℕ) (text : List ℕ) (offset n : ℕ) → next_line text offset ≡ line_at offset n
    → report_within (suc k) text offset ≡ entry line_key offset n ++ report_within k text (offset + n + 1)
unfolding report_within position_after entry line_text bytes
report-line k text offset n e = rw (e, report_within) refl

report-left : (k : ℕ) (text : List ℕ) (offset : ℕ) → next_line text offset ≡ no_line
    → report_within k text offset ≡ entry left_key offset (length text - offset) ++ []
unfolding report_within left_text entry line_text bytes
report-left zero text offset e = sym (append-nil (left_text text offset))
report-left (suc k) text offset e = rw (e, report_within) (sym (append-nil (left_text text offset)))

-- ---- the way

pub reporting_start : (text : List ℕ) (o : Output ℕ) → Reporting text o o 0
unfolding report
reporting_start text o = record {
  calls = length text;
  enough = omega arith;
  inside = omega arith;
  writing = writing_start o (report text);
}

-- A line is told
pub reporting_line : {text : List ℕ} {o₀ o o' : Output ℕ} {offset p n : ℕ} {st : Step} → Reporting text o₀ o offset
    → st ≡ step_from text offset → st.line ≡ At p n → Wrote o (entry line_key p n) o'
    → Reporting text o₀ o' st.offset
reporting_line {text} {o₀} {o} {o'} {offset} {p} {n} {st} r e f w =
    go (line-stands text offset (ap (λ (x : Step). x.line) e) f) (step_past text offset e f) r.calls r.enough r.writing
  where
    go : StandsAt text offset p n → st.offset ≡ p + n + 1 → (k : ℕ) → length text ≤ offset + k
        → Writing o₀ (report text) o (report_within k text offset) → Reporting text o₀ o' st.offset
    go l past zero enough writing = absurd (omega (arith, l.start, l.inside))
    go l past (suc k) enough writing =
        let behind : offset + n + 1 ≡ st.offset = omega (arith, past, l.start) in
        subst (Reporting text o₀ o') behind
        (record {
          calls = k;
          enough = omega arith;
          inside = omega (arith, l.start, l.inside);
          writing = writing_more writing (subst (λ (x : ℕ). Wrote o (entry line_key x n) o') l.start w) (report-line k text offset n l.next);
        })

-- and what is left of the text grows shorter
pub reporting_less : (text : List ℕ) (offset : ℕ) {p n : ℕ} {st : Step} → st ≡ step_from text offset → st.line ≡ At p n
    → length text - st.offset < length text - offset
reporting_less text offset e f =
    let l = line-stands text offset (ap (λ (x : Step). x.line) e) f in
    omega (arith, l.start, l.inside, step_past text offset e f)

-- What is left is told, and the report is whole
pub reporting_left : {text : List ℕ} {o₀ o o' : Output ℕ} {offset : ℕ} {st : Step} → Reporting text o₀ o offset
    → st ≡ step_from text offset → st.line ≡ Nothing
    → Wrote o (entry left_key offset (length text - offset)) o' → Wrote o₀ (report text) o'
reporting_left {text} {offset = offset} r e f w =
    let none = line-none text offset (ap (λ (x : Step). x.line) e) f in
    writing_all (writing_more r.writing w (report-left r.calls text offset none)) refl
