-- The numbers that are still to be written complete what reading a text writes.
use Rattle.std.specs.Prelude.{Result, Ok, Err}
use Prim.Native.Nat.{ℕ, zero, suc, ◌+◌, ◌-◌, ◌≤◌}
use native.Mathlib.Nat.{add-zero}
use native.Mathlib.Omega.{arith}
use mathlib.Core.Path.{◌≡◌, refl, sym, ap, ap₂, ◌∙◌, subst}
use mathlib.Core.Bool.{Bool, true, false}
use mathlib.Core.List.{List, [], ◌∷◌, ◌++◌, append-nil}
use lib.ListN.{length, take, drop, set}
use lib.Seq.{sets}
use Rattle.orm.specs.Reader.{Cut, broken, cut}
use Rattle.orm.specs.Text.{text_line}
use Rattle.reading.specs.WideTable.{most_numbers}
use Rattle.lexer.specs.Cuts.{line_numbers}
use Rattle.lexer.specs.Sound.{line-sound}
use Rattle.grammar.specs.declared.Fault.{Fault}
use Rattle.grammar.specs.declared.Awaited.{Awaited}
use Rattle.grammar.specs.declared.Awaited.TheVariants.{AtDiagram}
use Rattle.grammar.specs.Fault.{number_of}
use Rattle.grammar.specs.Awaited.{kind_at, is_going}
use Rattle.grammar.specs.Step.{Consequence, refusing, going, step_at}
use Rattle.grammar.specs.Room.{Room}
use Rattle.grammar.specs.Laws.Room.{line-room, some-fields}
use Rattle.reader.specs.declared.Reached.{Reached}
use Rattle.reader.specs.Reach.{Reach, halted, reached, line_of, line_step}
use Rattle.reader.specs.Written.{written_from, written}
use Rattle.reader.proofs.Running.{Running}

sets_append : (l : List ℕ) (i : ℕ) (a b : List ℕ) → sets l i (a ++ b) ≡ sets (sets l i a) (i + length a) b
sets_append l i [] b = ap (λ (k : ℕ). sets l k b) (sym (add-zero i))
sets_append l i (x ∷ a) b =
    let e : suc i + length a ≡ i + suc (length a) = omega arith in
    sets_append (set l i x) (suc i) a b ∙ ap (λ (k : ℕ). sets (sets (set l i x) (suc i) a) k b) e

-- ---- the clauses

module _ (p : Awaited) (acc s : List ℕ) where
  written-halted : (n c : ℕ) → is_going p ≡ true → line_step text_line p acc s ≡ halted c
      → written_from (suc n) p acc s ≡ line_numbers (kind_at p) s
  unfolding written_from
  written-halted n c g e = rw (written_from, g, e) (append-nil (line_numbers (kind_at p) s))

  written-more : (n : ℕ) (q : Awaited) (acc' : List ℕ) (e : ℕ) (rest : List ℕ) → is_going p ≡ true
      → line_step text_line p acc s ≡ reached q acc' e rest → written_from (suc n) p acc s ≡ line_numbers (kind_at p) s ++ written_from n q acc' rest
  unfolding written_from
  written-more n q acc' e rest g x = rw (written_from, g, x)

written_over : (n : ℕ) (p : Awaited) (acc s : List ℕ) → is_going p ≡ false → written_from n p acc s ≡ []
unfolding written_from
written_over zero p acc s g = refl
written_over (suc n) p acc s g = rw (written_from, g)

-- a line that leads on is written whole
reached-length : (p : Awaited) (acc s : List ℕ) (q : Awaited) (acc' : List ℕ) (e : ℕ) (rest : List ℕ)
    → reached q acc' e rest ≡ line_step text_line p acc s → e ≡ length acc + length (line_numbers (kind_at p) s)
unfolding line_step
reached-length p acc s q acc' e rest x = go (text_line (kind_at p) s) refl x
  where
    fine : (v r : List ℕ) → line_numbers (kind_at p) s ≡ v → (o : Consequence)
        → ◌≡◌ {A = Reach} (reached q acc' e rest) (elim o [
          | refusing c ↦ halted c
          | going q ↦ reached q (acc ++ v) (length acc + length v) r
        ]) → e ≡ length acc + length (line_numbers (kind_at p) s)
    fine v r l (refusing c) y = let z : ◌≡◌ {A = ℕ} 0 1 = cc in absurd (omega arith)
    fine v r l (going p') y = let same : e ≡ length acc + length v = cc in rw l same

    go : (c : Cut) → text_line (kind_at p) s ≡ c
        → ◌≡◌ {A = Reach} (reached q acc' e rest) (elim c [
          | broken ↦ halted 1
          | cut v r ↦
              elim (step_at p acc v) [
                | refusing c ↦ halted c
                | going q ↦ reached q (acc ++ v) (length acc + length v) r
              ]
        ]) → e ≡ length acc + length (line_numbers (kind_at p) s)
    go broken c y = let z : ◌≡◌ {A = ℕ} 0 1 = cc in absurd (omega arith)
    go (cut v r) c y = fine v r (line-sound (kind_at p) s v r c).0 (step_at p acc v) y

-- ---- turn by turn: line `number` at `at` is next, and the numbers so far end at `end`

pub record Stored (text table₀ table : List ℕ) (p : Awaited) (number at end : ℕ) : Type 0 where
  pub is : sets table end (written_from (most_numbers + 1 - number) p (take end table) (drop at text)) ≡ sets table₀ 0 (written text)

-- with the walk itself, whose next line this is
pub record Turn (text table₀ table : List ℕ) (p : Awaited) (number at end : ℕ) : Type 0 where
  pub run : Running text_line text p (take end table) number (drop at text)
  pub stored : Stored text table₀ table p number at end

pub stored-start : (text table : List ℕ) → Stored text table table AtDiagram 1 0 0
unfolding written
stored-start text table = record { is = refl }

module _ (text table₀ table table' : List ℕ) (p : Awaited) (number at end : ℕ) {b : Bool} (line : Result Reached Fault)
    (w : Stored text table₀ table p number at end) (m : Room p end) (few : number ≤ end + 1) (eb : b ≡ is_going p) (tb : b ≡ true)
    (step : line_of text table' line ≡ line_step text_line p (take end table) (drop at text))
    (t : table' ≡ sets table end (line_numbers (kind_at p) (drop at text))) where
  now_going : is_going p ≡ true
  now_going = sym eb ∙ tb

  one_more : most_numbers + 1 - number ≡ suc (most_numbers + 1 - (number + 1))
  one_more = omega (arith, line-room p end now_going m.known, some-fields p)

  pub stored-halted : {f : Fault} → line ≡ Err f → table' ≡ sets table₀ 0 (written text)
  stored-halted {f} e =
      let x : halted (number_of f) ≡ line_step text_line p (take end table) (drop at text) =
      subst (λ (l : Result Reached Fault). line_of text table' l ≡ line_step text_line p (take end table) (drop at text)) e step in
      t
      ∙ ap (sets table end)
      (sym (ap (λ (n : ℕ). written_from n p (take end table) (drop at text)) one_more
      ∙ written-halted p (take end table) (drop at text) (most_numbers + 1 - (number + 1)) (number_of f) now_going (sym x)))
      ∙ w.is

  pub stored_on : {x : Reached} → length (take end table) ≡ end → line ≡ Ok x
      → Stored text table₀ table' x.place (number + 1) x.at x.end
  stored_on {x} front el =
      let ws = line_numbers (kind_at p) (drop at text) in
      let more = written_from (most_numbers + 1 - (number + 1)) x.place (take x.end table') (drop x.at text) in
      let y : reached x.place (take x.end table') x.end (drop x.at text) ≡ line_step text_line p (take end table) (drop at text) =
      subst (λ (l : Result Reached Fault). line_of text table' l ≡ line_step text_line p (take end table) (drop at text)) el step in
      let to : x.end ≡ end + length ws =
      reached-length p (take end table) (drop at text) x.place (take x.end table') x.end (drop x.at text) y ∙ ap (λ (n : ℕ). n + length ws) front in
      record {
        is = ap₂ {C = List ℕ} (λ (l : List ℕ) (k : ℕ). sets l k more) t to
            ∙ sym (sets_append table end ws more)
            ∙ ap (sets table end)
            (sym (ap (λ (n : ℕ). written_from n p (take end table) (drop at text)) one_more
            ∙ written-more p (take end table) (drop at text) (most_numbers + 1 - (number + 1)) x.place (take x.end table') x.end (drop x.at text) now_going (sym y)))
            ∙ w.is;
      }

pub stored-over : (text table₀ table : List ℕ) (p : Awaited) (number at end : ℕ) {b : Bool} → Stored text table₀ table p number at end
    → b ≡ is_going p → b ≡ false → table ≡ sets table₀ 0 (written text)
stored-over text table₀ table p number at end w eb fb =
    ap (sets table end) (sym (written_over (most_numbers + 1 - number) p (take end table) (drop at text) (sym eb ∙ fb))) ∙ w.is
