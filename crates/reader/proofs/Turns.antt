-- What the two loops over the lines need, turn by turn.
use Rattle.std.specs.Prelude.{Result, Ok, Err}
use Prim.Native.Nat.{ℕ, suc, ◌+◌, ◌-◌, ◌≤◌, ◌<◌}
use native.Mathlib.Omega.{arith}
use mathlib.Core.Path.{◌≡◌, refl, sym, ap, ◌∙◌, subst}
use mathlib.Core.Bool.{Bool, true, false}
use mathlib.Core.Option.{Option, none, some}
use mathlib.Core.List.{List, ◌∷◌, ◌++◌}
use mir.Syntax.{w64}
use mir.Val.{Fits}
use lib.ListN.{length, get_or, take, drop, drop_of_length-le}
use lib.Seq.{length-take-le, drop-cons}
use Rattle.reading.specs.WideTable.{most_numbers}
use Rattle.orm.specs.Diagram.{LineKind}
use Rattle.orm.specs.Reader.{Cut, broken, cut}
use Rattle.orm.specs.Form.{◌unless◌, first_of, ranges, in_ranges}
use Rattle.orm.specs.Text.{table_line}
use Rattle.orm.specs.Diagram.{Diagram, Totals, totals, table as table_of}
use Rattle.orm.specs.Outcome.{Outcome, refused, accepted}
use Rattle.orm.specs.Calls.{diagram_in}
use Rattle.reading.specs.Lines.{Cuts}
use Rattle.reading.specs.Walk.{Summary, summary}
use Rattle.grammar.specs.declared.Fault.{Fault}
use Rattle.grammar.specs.declared.Counts.{Counts}
use Rattle.grammar.specs.declared.Awaited.{Awaited}
use Rattle.grammar.specs.declared.Awaited.TheVariants.{AtDiagram}
use Rattle.grammar.specs.Awaited.{kind_at, is_going, counts_at, totals_of, fields_at}
use Rattle.grammar.specs.Step.{tests_at, next_at, refusing, going, stepped, step_at}
use Rattle.grammar.specs.Room.{RoomAt, Room}
use Rattle.grammar.specs.Fault.{number_of}
use Rattle.grammar.specs.Laws.Room.{fields-at, some-fields, room_most, line-room, next_known}
use Rattle.refusals.specs.declared.Refusal.{Refusal}
use Rattle.reader.specs.declared.Reached.{Reached}
use Rattle.reader.specs.declared.Whole.{Whole}
use Rattle.reader.specs.Lines.{ended, end_of, summarised, lines_of}
use Rattle.reader.specs.Reach.{Reach, halted, reached, line_of, line_step, refused_at}
use Rattle.reader.proofs.Running.{Running, halts, goes_on, runs_on, ends}
use Rattle.reader.proofs.Answers.{was_refused, was_accepted}

pub is-going : (p : Awaited) {b : Bool} → b ≡ is_going p → b ≡ true → is_going p ≡ true
is-going p e t = sym e ∙ t

pub start-room : Room AtDiagram 0
start-room = record { known = omega arith }

pub as_long : (a b : List ℕ) {n : ℕ} → length a ≡ length b → length b ≡ n → length a ≡ n
as_long a b e l = e ∙ l

-- a turn from the place `p`, with the numbers so far up to `end`
module _ (p : Awaited) {b : Bool} (end : ℕ) (w : Room p end) (eb : b ≡ is_going p) (tb : b ≡ true) where
  room_now : end + fields_at p ≤ most_numbers
  room_now = line-room p end (is-going p eb tb) w.known

  pub number_fits : {number : ℕ} → number ≤ end + 1 → Fits w64 (number + 1)
  number_fits h = record { fits = omega (arith, room_now) }

-- the numbers so far are as many as the place says
pub front-text : (table : List ℕ) (p : Awaited) (end : ℕ) → Room p end → length table ≡ most_numbers → length (take end table) ≡ end
front-text table p end w l = length-take-le end table (omega (arith, room_most p end w))

pub front-table : (table : List ℕ) (end : ℕ) → end ≤ length table → length (take end table) ≡ end
front-table table end h = length-take-le end table h

-- ---- where a line leads there is room, after its numbers

record Led (p q : Awaited) (end e : ℕ) : Type 0 where
  room : Room q e
  after : e ≡ end + fields_at p

led : {form : LineKind → List ℕ → List ℕ} (next : LineKind → List ℕ → Cut) → Cuts form next → (p : Awaited) (acc s : List ℕ) (q : Awaited)
    (acc' : List ℕ) (end e : ℕ) (rest : List ℕ) → length acc ≡ end → Room p end → is_going p ≡ true
    → reached q acc' e rest ≡ line_step next p acc s → Led p q end e
unfolding line_step step_at
led next cuts p acc s q acc' end e rest la w g eq = go (next (kind_at p) s) refl eq
  where
    fine : (v r : List ℕ) → length v ≡ fields_at p → (o : Option ℕ)
        → first_of (2 unless in_ranges (ranges (kind_at p)) v ∷ tests_at p acc v) ≡ o
        → ◌≡◌ {A = Reach} (reached q acc' e rest) (elim (stepped o (next_at p acc v)) [
          | refusing c ↦ halted c
          | going q ↦ reached q (acc ++ v) (length acc + length v) r
        ]) → Led p q end e
    fine v r l (some c) f x = let z : ◌≡◌ {A = ℕ} 0 1 = cc in absurd (omega arith)
    fine v r l none f x =
        let same_place : q ≡ next_at p acc v = cc in
        let same_end : e ≡ length acc + length v = cc in
        let known : RoomAt p (length acc) = rw la w.known in
        record { room = record { known = rw (same_place, same_end) (next_known p acc v g known l f) }; after = omega arith }

    go : (c : Cut) → next (kind_at p) s ≡ c
        → ◌≡◌ {A = Reach} (reached q acc' e rest) (elim c [
          | broken ↦ halted 1
          | cut v r ↦
              elim (step_at p acc v) [
                | refusing c ↦ halted c
                | going q ↦ reached q (acc ++ v) (length acc + length v) r
              ]
        ]) → Led p q end e
    go broken c x = let z : ◌≡◌ {A = ℕ} 0 1 = cc in absurd (omega arith)
    go (cut v r) c x =
        fine v r ((cuts.only (kind_at p) s v r c).0 ∙ fields-at p)
        (first_of (2 unless in_ranges (ranges (kind_at p)) v ∷ tests_at p acc v)) refl x

-- ---- the answer, from what is told with the numbers

refused-ended : (o : Outcome Diagram) (c line : ℕ) → refused c line 0 ≡ summarised o → refused c line 0 ≡ ended o
refused-ended o c line e = sym (ap ended (was_refused o c line 0 e))

accepted-ended : (o : Outcome Diagram) (table : List ℕ) (end : ℕ) (t : Totals) → length (take end table) ≡ end
    → accepted (record { numbers = take end table; totals = t }) ≡ summarised o
    → accepted (record { table_length = end; totals = t }) ≡ ended o
unfolding summary
accepted-ended o table end t front e =
    let w = was_accepted o (record { numbers = take end table; totals = t }) e in
    let n : end ≡ length (table_of w.0) = sym front ∙ ap (λ (s : Summary). length s.numbers) w.2 in
    let q : t ≡ totals w.0 = ap (λ (s : Summary). s.totals) w.2 in
    rw w.1 (λ i. accepted (record { table_length = n i; totals = q i }))

-- ---- a turn, whether over a text or over a table: `table'` holds the numbers after it

module _ {form : LineKind → List ℕ → List ℕ} (next : LineKind → List ℕ → Cut) (source table table' : List ℕ) (p : Awaited) (at end : ℕ)
    {b : Bool} (line : Result Reached Fault) (cuts : Cuts form next) (w : Room p end) (front : length (take end table) ≡ end) (eb : b ≡ is_going p)
    (tb : b ≡ true) (step : line_of source table' line ≡ line_step next p (take end table) (drop at source)) where
  module _ {x : Reached} (el : line ≡ Ok x) where
    leads : reached x.place (take x.end table') x.end (drop x.at source) ≡ line_step next p (take end table) (drop at source)
    leads = subst (λ (l : Result Reached Fault). line_of source table' l ≡ line_step next p (take end table) (drop at source)) el step

    turn_led : Led p x.place end x.end
    turn_led =
        led next cuts p (take end table) (drop at source) x.place (take x.end table') end x.end (drop x.at source) front w (is-going p eb tb) leads

    pub turn_room : Room x.place x.end
    turn_room = turn_led.room

    pub turn_number : {number : ℕ} → number ≤ end + 1 → number + 1 ≤ x.end + 1
    turn_number h = omega (arith, turn_led.after, some-fields p)

    pub turn_less : most_numbers - x.end < most_numbers - end
    turn_less = omega (arith, turn_led.after, some-fields p, room_now p end w eb tb)

    pub turn_on : (number : ℕ) → Running next source p (take end table) number (drop at source)
        → Running next source x.place (take x.end table') (number + 1) (drop x.at source)
    turn_on number run =
        goes_on next cuts source p (take end table) (drop at source) number run x.place (take x.end table') x.end (drop x.at source)
        (is-going p eb tb) leads

  pub turn_halted : (number : ℕ) {f : Fault} {r : Result Whole Refusal} → Running next source p (take end table) number (drop at source)
      → line ≡ Err f → r ≡ refused_at line number → lines_of table' r ≡ summarised (diagram_in next source)
  turn_halted number {f} run el er =
      rw (er, el)
      (halts next cuts source p (take end table) (drop at source) number run f (is-going p eb tb)
      (subst (λ (l : Result Reached Fault). line_of source table' l ≡ line_step next p (take end table) (drop at source)) el step))

  pub ended-halted : (number : ℕ) {f : Fault} {r : Result Whole Refusal} → Running next source p (take end table) number (drop at source)
      → line ≡ Err f → r ≡ refused_at line number → end_of r ≡ ended (diagram_in next source)
  ended-halted number {f} run el er =
      rw (er, el)
      (refused-ended (diagram_in next source) (number_of f) number
      (halts next cuts source p (take end table) (drop at source) number run f (is-going p eb tb)
      (subst (λ (l : Result Reached Fault). line_of source table' l ≡ line_step next p (take end table) (drop at source)) el step)))

-- a table's position is where its numbers so far end
pub turn_level : (table : List ℕ) (q : Awaited) (acc : List ℕ) (number : ℕ) {at' e : ℕ} → at' ≡ e
    → Running table_line table q acc number (drop at' table) → Running table_line table q acc number (drop e table)
turn_level table q acc number e run = rw e at run

-- ---- behind the last line

module _ {form : LineKind → List ℕ → List ℕ} (next : LineKind → List ℕ → Cut) (source table : List ℕ) (p : Awaited) (number at end : ℕ)
    {b : Bool} (cuts : Cuts form next) (run : Running next source p (take end table) number (drop at source)) (eb : b ≡ is_going p)
    (tb : b ≡ false) where
  pub surplus : at < length source → refused 1 number 0 ≡ summarised (diagram_in next source)
  surplus h =
      runs_on next cuts source p (take end table) (drop at source) number run (get_or source at 0) (drop (suc at) source) (sym eb ∙ tb)
      (drop-cons source at 0 h)

  pub ended-surplus : at < length source → refused 1 number 0 ≡ ended (diagram_in next source)
  ended-surplus h = refused-ended (diagram_in next source) 1 number (surplus h)

  pub whole : {c : Counts} → length source ≤ at → c ≡ counts_at p
      → accepted (record { numbers = take end table; totals = totals_of c }) ≡ summarised (diagram_in next source)
  whole {c} h ec = ends next cuts source p (take end table) (drop at source) number run c (sym eb ∙ tb) ec (drop_of_length-le source h)

  pub ended-whole : {c : Counts} → length (take end table) ≡ end → length source ≤ at → c ≡ counts_at p
      → accepted (record { table_length = end; totals = totals_of c }) ≡ ended (diagram_in next source)
  ended-whole {c} front h ec = accepted-ended (diagram_in next source) table end (totals_of c) front (whole h ec)
