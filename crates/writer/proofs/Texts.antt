-- The text of a predicate, of all predicates and of a diagram, put together from lines.
use Prim.Native.Nat.{ℕ, zero, suc, ◌+◌, ◌-◌, ◌≤◌, ◌<◌}
use native.Mathlib.Omega.{arith}
use mathlib.Core.Path.{◌≡◌, refl, sym, ap, ap₂, ◌∙◌}
use mathlib.Core.Bool.{Bool, true, false}
use mathlib.Core.List.{List, [], ◌∷◌, ◌++◌, map, flat_map, append_assoc}
use lib.ListN.{length, get_or, drop}
use lib.Seq.{drop-drop}
use Rattle.orm.specs.Diagram.{Role, Diagram, Line, line_of_type, line_of_role, line_of_group, line_of_pred, lines_of_pred, line_of_count, pred_line, preds_line, end_line, limits_roles, role_line_of, all_roles, lines}
use Rattle.orm.specs.Form.{role_fields, limited_role_fields, type_of, group_of}
use Rattle.orm.specs.Text.{bytes, key, line_text, render}
use Rattle.reading.specs.Exact.{written, written_append, written_one}
use Rattle.reading.specs.Cutting.{text_form}
use Rattle.reading.specs.Spelling.{role_line_by, role_values_by}
use Rattle.grammar.specs.Awaited.{role_fields_of}
use Rattle.buffer.specs.declared.output.Output.{Output}
use Rattle.buffer.specs.Written.{Wrote, Writing}
use Rattle.buffer.specs.Laws.{wrote_then, wrote_as, writing_start}
use Rattle.table.specs.Positions.{each, types_in, role_width, wide_role, roles_in, groups_in, roles_start, groups_start, roles_of, pred_of, pred_length, preds_in, type_count, pred_count, first_pred_at, diagram_of}
use Rattle.table.specs.Laws.Walks.{each-length, role-more, role-none, role-count, group-count, roles-here, preds_more, preds-none}
use Rattle.numerals.specs.Lines.{numbers_from, keyed, keyed_lines}
use Rattle.writer.specs.Lines.{lines_text, role_text, lines_to_types, pred_lines, Counted}

-- ---- lines of one kind

module _ {A : Type 0} (make : List ℕ → A) (n : ℕ) (line_of : A → Line) (k : List ℕ)
    (same : (s : List ℕ) → line_text (key (line_of (make s)).kind) (line_of (make s)).values ≡ keyed k (numbers_from s 0 n)) where
  each-text : (count : ℕ) (s : List ℕ) → keyed_lines k n count s ≡ lines_text (map line_of (each make n count s))
  unfolding written keyed_lines each flat_map
  each-text zero s = refl
  each-text (suc c) s = ap₂ {C = List ℕ} (λ a b. a ++ b) (sym (same s)) (each-text c (drop n s))

types-text : (count : ℕ) (s : List ℕ) → keyed_lines (bytes "type=") 6 count s ≡ lines_text (map line_of_type (types_in count s))
unfolding line_of_type line_text bytes key keyed numbers_from
types-text = each-text type_of 6 line_of_type (bytes "type=") (λ s. refl)

groups-text : (count : ℕ) (s : List ℕ) → keyed_lines (bytes "freq=") 2 count s ≡ lines_text (map line_of_group (groups_in count s))
unfolding line_of_group line_text bytes key keyed numbers_from
groups-text = each-text group_of 2 line_of_group (bytes "freq=") (λ s. refl)

-- ---- the roles left, in a file of this kind

role-values : (kind : ℕ) (s : List ℕ) → line_text (key (line_of_role kind (wide_role s)).kind) (line_of_role kind (wide_role s)).values
    ≡ keyed (bytes "role=") (numbers_from s 0 (role_fields_of kind))
unfolding line_of_role role_line_of line_text bytes key keyed numbers_from
role-values kind s = go (limits_roles kind)
  where
    go : (b : Bool) → line_text (key (role_line_by b)) (role_values_by b (wide_role s))
        ≡ keyed (bytes "role=") (numbers_from s 0 (elim b [ true ↦ limited_role_fields | false ↦ role_fields ]))
    go true = unfold line_text bytes key keyed numbers_from in refl
    go false = unfold line_text bytes key keyed numbers_from in refl

pub role-is : (kind : ℕ) (s : List ℕ) {o o' : Output ℕ} {n m : ℕ} → n ≡ m → m ≡ role_fields_of kind
    → Wrote o (keyed (bytes "role=") (numbers_from s 0 n)) o' → Wrote o (role_text kind s) o'
role-is kind s en em w = wrote_as w (rw (en, em) (sym (written_one text_form (line_of_role kind (wide_role s)) ∙ role-values kind s)))

abbrev pub role_lines : ℕ → ℕ → List ℕ → List ℕ
role_lines kind n s = lines_text (map (line_of_role kind) (roles_in n s))

module _ (kind : ℕ) (t : List ℕ) (p n : ℕ) where
  -- `i` of `n` passed
  pub roles-next : (i : ℕ) → i < n
      → role_lines kind (n - i) (drop p t) ≡ role_text kind (drop p t) ++ role_lines kind (n - (i + 1)) (drop (p + role_width) t)
  roles-next i h =
      let less : n - i - 1 ≡ n - (i + 1) = omega arith in
      ap (λ (rs : List Role). lines_text (map (line_of_role kind) rs)) (role-more t p (n - i) (omega arith))
      ∙ written_append text_form (line_of_role kind (wide_role (drop p t)) ∷ []) (map (line_of_role kind) (roles_in (n - i - 1) (drop (p + role_width) t)))
      ∙ ap (λ (k : ℕ). role_text kind (drop p t) ++ role_lines kind k (drop (p + role_width) t)) less

  pub roles-end : n ≤ 0 → role_lines kind n (drop p t) ≡ []
  unfolding written flat_map
  roles-end h = ap (λ (rs : List Role). lines_text (map (line_of_role kind) rs)) (role-none n (drop p t) h)

-- ---- predicates

head-text : (s : List ℕ) → keyed (bytes "pred=") (numbers_from s 0 4) ≡ line_text (key pred_line) (line_of_pred (pred_of s)).values
unfolding line_of_pred line_text bytes key keyed numbers_from
head-text s = rw (role-count s, group-count s) refl

pred-text : (kind : ℕ) (s : List ℕ)
    → keyed (bytes "pred=") (numbers_from s 0 4)
    ++ (lines_text (map (line_of_role kind) (roles_of s)) ++ keyed_lines (bytes "freq=") 2 (get_or s 3 0) (drop (groups_start s) s))
    ≡ lines_text (lines_of_pred kind (pred_of s))
unfolding lines_of_pred line_of_pred written flat_map
pred-text kind s =
    ap₂ {C = List ℕ} (λ a b. a ++ b) (head-text s)
    (ap (λ (x : List ℕ). lines_text (map (line_of_role kind) (roles_of s)) ++ x) (groups-text (get_or s 3 0) (drop (groups_start s) s))
    ∙ sym (written_append text_form (map (line_of_role kind) (pred_of s).roles) (map line_of_group (pred_of s).groups)))

-- `r` and `g` are its numbers of roles and groups, `j` the second as an index; its roles start at `q`, its groups at `e`
pub pred-is : (t : List ℕ) (p kind : ℕ) {o o₁ o₂ o₃ : Output ℕ} {r g j q e : ℕ} → r ≡ get_or (drop p t) 2 0 → g ≡ get_or (drop p t) 3 0
    → j ≡ g → q ≡ p + roles_start → e ≡ p + groups_start (drop p t) → Wrote o (keyed (bytes "pred=") (numbers_from (drop p t) 0 4)) o₁
    → Wrote o₁ (lines_text (map (line_of_role kind) (roles_in r (drop q t)))) o₂ → Wrote o₂ (keyed_lines (bytes "freq=") 2 j (drop e t)) o₃
    → Wrote o (lines_text (lines_of_pred kind (pred_of (drop p t)))) o₃
pred-is t p kind er eg ej eq ee w₁ w₂ w₃ =
    let s : List ℕ = drop p t in
    wrote_as (wrote_then w₁ (wrote_then w₂ w₃))
    (rw (roles-here t p er eq, ej, eg, ee, ← drop-drop (groups_start s) p t) (pred-text kind s))

module _ (t : List ℕ) where
  pub preds-start : (o : Output ℕ) {p n k m : ℕ} → p ≡ first_pred_at t → n ≡ pred_count t → k ≡ m → m ≡ get_or t 0 0
      → Writing o (pred_lines (diagram_of t).kind (diagram_of t).preds) o (pred_lines k (preds_in (n - 0) (drop p t)))
  unfolding diagram_of
  preds-start o {n = n} ep en ek em =
      let all : n - 0 ≡ pred_count t = omega arith in
      rw (ek, em, ep, all) (writing_start o (pred_lines (get_or t 0 0) (preds_in (pred_count t) (drop (first_pred_at t) t))))

  -- `i` of `n` passed
  pub preds-next : (kind p n i : ℕ) {q : ℕ} → i < n → q ≡ p + pred_length (drop p t)
      → pred_lines kind (preds_in (n - i) (drop p t))
      ≡ lines_text (lines_of_pred kind (pred_of (drop p t))) ++ pred_lines kind (preds_in (n - (i + 1)) (drop q t))
  unfolding flat_map
  preds-next kind p n i {q} h eq =
      let less : n - i - 1 ≡ n - (i + 1) = omega arith in
      ap (pred_lines kind) (preds_more t p (n - i) (omega arith) eq)
      ∙ written_append text_form (lines_of_pred kind (pred_of (drop p t))) (flat_map (lines_of_pred kind) (preds_in (n - i - 1) (drop q t)))
      ∙ ap (λ (k : ℕ). lines_text (lines_of_pred kind (pred_of (drop p t))) ++ pred_lines kind (preds_in k (drop q t))) less

  pub preds-end : (kind p n : ℕ) → n ≤ 0 → pred_lines kind (preds_in n (drop p t)) ≡ []
  unfolding flat_map written
  preds-end kind p n h = ap (pred_lines kind) (preds-none n (drop p t) h)

-- ---- the diagram

pub types_are : (t : List ℕ) {o o₁ o₂ o₃ : Output ℕ} {n k m : ℕ} → n ≡ length (diagram_of t).types → k ≡ m → m ≡ get_or t 0 0
    → Wrote o (keyed (bytes "diagram=") (k ∷ [])) o₁ → Wrote o₁ (keyed (bytes "types=") (n ∷ [])) o₂
    → Wrote o₂ (keyed_lines (bytes "type=") 6 n (drop 2 t)) o₃ → Wrote o (lines_text (lines_to_types (diagram_of t))) o₃
unfolding lines_to_types diagram_of written line_of_count line_text bytes key keyed flat_map
types_are t {n = n} e ek em w₁ w₂ w₃ =
    let count : n ≡ type_count t = e ∙ each-length type_of 6 (type_count t) (drop 2 t) in
    let shown : ℕ → List ℕ → List ℕ = λ m x. keyed (bytes "diagram=") (get_or t 0 0 ∷ []) ++ (keyed (bytes "types=") (m ∷ []) ++ x) in
    wrote_as (wrote_then (rw (ek, em) at w₁) (wrote_then w₂ w₃))
    (ap₂ shown e (ap (λ (m : ℕ). keyed_lines (bytes "type=") 6 m (drop 2 t)) count ∙ types-text (type_count t) (drop 2 t)))

text-whole : (d : Diagram)
    → lines_text (lines_to_types d)
    ++ (keyed (bytes "preds=") (length d.preds ∷ []) ++ (pred_lines d.kind d.preds ++ keyed (bytes "end=") (length (all_roles d) ∷ [])))
    ≡ render d
unfolding lines_to_types render lines written line_of_count line_text bytes key keyed flat_map
text-whole d =
    let ps : List Line = line_of_count preds_line (length d.preds) ∷ flat_map (lines_of_pred d.kind) d.preds in
    let last : Line = line_of_count end_line (length (all_roles d)) in
    sym
    (written_append text_form (lines_to_types d ++ ps) (last ∷ [])
    ∙ ap₂ {C = List ℕ} (λ a b. a ++ b) (written_append text_form (lines_to_types d) ps) (written_one text_form last)
    ∙ append_assoc (lines_text (lines_to_types d)) (lines_text ps) (keyed (bytes "end=") (length (all_roles d) ∷ []))
    ∙ ap (λ (x : List ℕ). lines_text (lines_to_types d) ++ x)
    (append_assoc (keyed (bytes "preds=") (length d.preds ∷ [])) (pred_lines d.kind d.preds) (keyed (bytes "end=") (length (all_roles d) ∷ []))))

pub text-is : (t : List ℕ) {o o₁ o₂ o₃ o₄ : Output ℕ} {types preds roles : ℕ} → Counted t types preds roles
    → Wrote o (lines_text (lines_to_types (diagram_of t))) o₁ → Wrote o₁ (keyed (bytes "preds=") (preds ∷ [])) o₂
    → Wrote o₂ (pred_lines (diagram_of t).kind (diagram_of t).preds) o₃ → Wrote o₃ (keyed (bytes "end=") (roles ∷ [])) o₄
    → Wrote o (render (diagram_of t)) o₄
text-is t counted w₁ w₂ w₃ w₄ =
    wrote_as (wrote_then w₁ (wrote_then w₂ (wrote_then w₃ w₄))) (rw (counted.preds, counted.roles) (text-whole (diagram_of t)))
