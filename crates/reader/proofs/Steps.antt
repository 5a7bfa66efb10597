-- One line of a text or of a table.
use Rattle.std.specs.Prelude.{Option, Some, None, Result, Ok, Err}
use Prim.Native.Nat.{ℕ, ◌+◌, ◌≤◌, ◌<◌}
use native.Mathlib.Omega.{arith}
use mathlib.Core.Path.{◌≡◌, sym, ap, ap₂, ◌∙◌}
use mathlib.Core.Bool.{true}
use mathlib.Core.List.{List, ◌++◌, append_assoc}
use mir.Syntax.{w64}
use mir.Val.{Fits}
use lib.ListN.{length, take, drop, length-drop}
use lib.Seq.{length-take-le, take-add, take_at, drop_at, drop-drop, sets, sets-eq, length-sets}
use Rattle.reading.specs.WideTable.{most_numbers}
use Rattle.orm.specs.Diagram.{LineKind}
use Rattle.orm.specs.Reader.{Cut, broken, cut}
use Rattle.orm.specs.Text.{text_line, table_line}
use Rattle.reading.specs.Cutting.{text_cuts, table-short, table-long}
use Rattle.lexer.specs.declared.Kind.{Kind}
use Rattle.lexer.specs.Cuts.{kind_of, rest_of, rest_in, fields_of, line_numbers}
use Rattle.lexer.specs.Sound.{line-to, line-not}
use Rattle.grammar.specs.declared.Fault.{Fault}
use Rattle.grammar.specs.declared.Awaited.{Awaited}
use Rattle.grammar.specs.Awaited.{kind_at, is_going, fields_at}
use Rattle.grammar.specs.Step.{step_of, step_at}
use Rattle.grammar.specs.Room.{Room}
use Rattle.grammar.specs.Laws.Room.{fields-at, line-room}
use Rattle.reader.specs.declared.Reached.{Reached}
use Rattle.reader.specs.Reach.{halted, line_of, line_step}

-- Where the step leads, with the positions behind the line
abbrev pub after : Result Awaited Fault → ℕ → ℕ → Result Reached Fault
after (Ok p) at end = Ok (record { place = p; at = at; end = end })
after (Err f) at end = Err f

-- ---- room

module _ {p : Awaited} {end : ℕ} (w : Room p end) (g : is_going p ≡ true) where
  pub room_write : (kind : Kind) (table : List ℕ) → fields_of kind ≡ fields_at p → length table ≡ most_numbers → end + fields_of kind ≤ length table
  room_write kind table e l = omega (arith, line-room p end g w.known)

  pub room_fits : (n : ℕ) → n ≤ 6 → Fits w64 (end + n)
  room_fits n l = record { fits = omega (arith, line-room p end g w.known) }

  pub room-check : (kind : Kind) {n : ℕ} (table table' : List ℕ) → n ≡ fields_of kind → fields_of kind ≡ fields_at p → length table ≡ most_numbers
      → length table' ≡ length table → end + n ≤ length table'
  room-check kind table table' q e l l' = omega (arith, line-room p end g w.known)

pub fields-same : (p : Awaited) (kind : Kind) {n : ℕ} (end : ℕ) → n ≡ fields_of kind → fields_of kind ≡ fields_at p → end + n ≡ end + fields_at p
fields-same p kind end q e = ap (λ (k : ℕ). end + k) (q ∙ e)

-- ---- a line that is cut off leads where its step says

led : (next : LineKind → List ℕ → Cut) (p : Awaited) (acc s v source table : List ℕ) (at end : ℕ) (st : Result Awaited Fault)
    → next (kind_at p) s ≡ cut v (drop at source) → step_of st ≡ step_at p acc v → take end table ≡ acc ++ v → end ≡ length acc + length v
    → line_of source table (after st at end) ≡ line_step next p acc s
unfolding line_step
led next p acc s v source table at end (Err f) c e t l = rw (c, ← e, line_step)
led next p acc s v source table at end (Ok q) c e t l = rw (c, ← e, line_step, t, l)

-- the numbers of a line behind those so far
module _ (p : Awaited) (table : List ℕ) (end : ℕ) (h : end + fields_at p ≤ length table) where
  so_far : take (end + fields_at p) table ≡ take end table ++ take (fields_at p) (drop end table)
  so_far = take-add end (fields_at p) table

  so-many : end + fields_at p ≡ length (take end table) + length (take (fields_at p) (drop end table))
  so-many = sym (ap₂ (λ (a b : ℕ). a + b) (length-take-le end table (omega arith))
      (length-take-le (fields_at p) (drop end table) (omega (arith, length-drop end table))))

-- ---- of a text

-- stored numbers, and those before them
module _ (l : List ℕ) (end : ℕ) (ws : List ℕ) (h : end + length ws ≤ length l) where
  front : length (take end l) ≡ end
  front = length-take-le end l (omega arith)

  stored : sets l end ws ≡ take end l ++ (ws ++ drop (end + length ws) l)
  stored = sets-eq ws l end h ∙ append_assoc (take end l) ws (drop (end + length ws) l)

  sets-front : take end (sets l end ws) ≡ take end l
  sets-front = ap (take end) stored ∙ take_at (take end l) (ws ++ drop (end + length ws) l) end front

  sets-part : {n : ℕ} → length ws ≡ n → take n (drop end (sets l end ws)) ≡ ws
  sets-part {n} e =
      ap (λ (t : List ℕ). take n (drop end t)) stored
      ∙ ap (take n) (drop_at (take end l) (ws ++ drop (end + length ws) l) end front)
      ∙ take_at ws (drop (end + length ws) l) n e

module _ (p : Awaited) (kind : Kind) (ek : kind_of kind ≡ kind_at p) (text : List ℕ) (at : ℕ) where
  pub text-broken : {f : Option ℕ} → rest_of text f ≡ rest_in (text_line (kind_of kind) (drop at text)) → (acc : List ℕ) → f ≡ None → halted 1 ≡ line_step text_line p acc (drop at text)
  unfolding line_step
  text-broken e acc q =
      let c : text_line (kind_at p) (drop at text) ≡ broken = rw ek at (line-not text (kind_of kind) (drop at text) e q) in
      rw (c, line_step)

  pub text-stored : (table : List ℕ) (end : ℕ) {table' : List ℕ} → table' ≡ sets table end (line_numbers (kind_of kind) (drop at text))
      → table' ≡ sets table end (line_numbers (kind_at p) (drop at text))
  text-stored table end w = w ∙ rw ek

  pub text-reached : {f : Option ℕ} → rest_of text f ≡ rest_in (text_line (kind_of kind) (drop at text))
      → (table table' : List ℕ) (end : ℕ) {n next : ℕ} (st : Result Awaited Fault)
      → fields_of kind ≡ fields_at p → n ≡ fields_of kind → end + n ≤ length table'
      → table' ≡ sets table end (line_numbers (kind_of kind) (drop at text)) → f ≡ Some next
      → step_of st ≡ step_at p (take end table') (take (fields_at p) (drop end table'))
      → line_of text table' (after st next (end + n)) ≡ line_step text_line p (take end table) (drop at text)
  text-reached e table table' end {n} {next} st ef en l t q s =
      let v = line_numbers (kind_at p) (drop at text) in
      let c : text_line (kind_at p) (drop at text) ≡ cut v (drop next text) = rw ek at (line-to text (kind_of kind) (drop at text) e q) in
      let many : length v ≡ fields_at p = (text_cuts.only (kind_at p) (drop at text) v (drop next text) c).0 ∙ fields-at p in
      let t' : table' ≡ sets table end v = text-stored table end t in
      let long : length table' ≡ length table = ap length t' ∙ length-sets table end v in
      let room : end + length v ≤ length table = omega arith in
      let h : end + fields_at p ≤ length table' = omega arith in
      let before : take end table' ≡ take end table = ap (take end) t' ∙ sets-front table end v room in
      let part : take (fields_at p) (drop end table') ≡ v =
      ap (λ (x : List ℕ). take (fields_at p) (drop end x)) t' ∙ sets-part table end v room many in
      rw (en, ef, ← before)
      (led text_line p (take end table') (drop at text) (take (fields_at p) (drop end table')) text table' next (end + fields_at p) st
      (c ∙ ap (λ (x : List ℕ). cut x (drop next text)) (sym part)) s
      (so_far p table' end h) (so-many p table' end h))

-- ---- of a table

module _ (p : Awaited) (kind : Kind) (table : List ℕ) (at : ℕ) {n : ℕ} (ef : fields_of kind ≡ fields_at p) (en : n ≡ fields_of kind) where
  pub table-broken : at ≤ length table → length table < at + n → (acc : List ℕ) → halted 1 ≡ line_step table_line p acc (drop at table)
  unfolding line_step
  table-broken h l acc =
      let c : table_line (kind_at p) (drop at table) ≡ broken =
      table-short (kind_at p) (drop at table) (omega (arith, length-drop at table, fields-at p)) in
      rw (c, line_step)

  pub table-reached : (st : Result Awaited Fault) → at + n ≤ length table
      → step_of st ≡ step_at p (take at table) (take (fields_at p) (drop at table))
      → line_of table table (after st (at + n) (at + n)) ≡ line_step table_line p (take at table) (drop at table)
  table-reached st l s =
      let h : at + fields_at p ≤ length table = omega arith in
      let v = take (fields_at p) (drop at table) in
      let c : table_line (kind_at p) (drop at table) ≡ cut v (drop (at + fields_at p) table) =
      rw (fields-at p) at (table-long (kind_at p) (drop at table) (omega (arith, length-drop at table, fields-at p)))
      ∙ ap (cut v) (drop-drop (fields_at p) at table) in
      rw (en, ef)
      (led table_line p (take at table) (drop at table) v table table (at + fields_at p) (at + fields_at p) st c s
      (so_far p table at h) (so-many p table at h))
