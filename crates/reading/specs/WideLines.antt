-- The role lines of a table of one width: each holds its role whole, so that the table is that of `diagram=2`, where nothing is added, up to its
-- first number.
use Rattle.std.specs.Prelude.{ℕ, ◌≡◌, Bool, true, length, drop}
use Rattle.std.proofs.Common.{arith, sym, ap, ◌∙◌}
use Rattle.std.proofs.Math.Path.{refl, ap₂}
use Rattle.std.proofs.Math.Bool.{false}
use mathlib.Core.List.{List, [], ◌∷◌, ◌++◌, map, flat_map, append-nil}
use borrow.Author.Tests.{eqb-false}
use Rattle.counting.specs.Terms.{Each}
use Rattle.counting.proofs.Laws.Maps.{flat_map_append}
use Rattle.counting.proofs.Laws.Members.{each-cons, each-head, each_tail, each_map, in_flat_map}
use Rattle.orm.specs.Diagram.{Role, Predicate, Diagram, Line, limits_roles, role_line_of, line_of_type, line_of_role, line_of_group, line_of_pred, lines_of_pred}
use Rattle.orm.specs.Diagram.{line_of_count, types_line, preds_line, end_line, all_roles, lines, table}
use Rattle.orm.specs.Meaning.{Between}
use Rattle.orm.specs.WellFormed.{OfKind, WellFormed}
use Rattle.reading.specs.Spelling.{role_line_by, role_values_by}
use Rattle.reading.specs.WideTable.{added, wide_line, wide_table}

-- The numbers of a role line are all of the role
wide-numbers : (kind : ℕ) (r : Role) → Between 1 kind 2 → OfKind kind r
    → wide_line (line_of_role kind r) ≡ r.type ∷ r.mand ∷ r.group ∷ r.rmin ∷ r.rmax ∷ []
unfolding line_of_role role_line_of
wide-numbers kind r between limits = go (limits_roles kind) refl
  where
    go : (b : Bool) → limits_roles kind ≡ b → role_values_by b r ++ added (role_line_by b) ≡ r.type ∷ r.mand ∷ r.group ∷ r.rmin ∷ r.rmax ∷ []
    go true e = unfold added in refl
    go false e =
        let not-two : ¬ (kind ≡ 2) = unfold limits_roles in eqb-false kind 2 e in
        let (fewest, most) = limits (omega arith) in
        unfold added in ap₂ {C = List ℕ} (λ x y. r.type ∷ r.mand ∷ r.group ∷ x ∷ y ∷ []) (sym fewest) (sym most)

-- ---- lines to which nothing is added

-- Nothing is added to the line
abbrev Whole : Line → Type 0
Whole l = added l.kind ≡ []

whole-lines : (ls : List Line) → Each Whole ls → flat_map wide_line ls ≡ flat_map (λ (l : Line). l.values) ls
unfolding flat_map
whole-lines [] w = refl
whole-lines (l ∷ ls) w =
    ap₂ {C = List ℕ} (λ a b. a ++ b) (ap (λ (a : List ℕ). l.values ++ a) (each-head _ w) ∙ append-nil l.values) (whole-lines ls (each_tail _ w))

-- ---- in both kinds

-- The same diagram as `diagram=2`
abbrev pub limited : Diagram → Diagram
limited d = record { kind = 2; types = d.types; preds = d.preds }

-- These lines have in the table of one width the numbers that those have in the file
record Same (ls ks : List Line) : Type 0 where
  numbers : flat_map wide_line ls ≡ flat_map (λ (l : Line). l.values) ks

same_nil : Same [] []
unfolding flat_map
same_nil = record { numbers = refl }

same-cons : {l k : Line} {ls ks : List Line} → wide_line l ≡ k.values → Same ls ks → Same (l ∷ ls) (k ∷ ks)
unfolding flat_map
same-cons e f = record { numbers = ap₂ {C = List ℕ} (λ a b. a ++ b) e f.numbers }

same_whole : (ls : List Line) → Each Whole ls → Same ls ls
same_whole ls w = record { numbers = whole-lines ls w }

same_append : {ls ls' ks ks' : List Line} → Same ls ls' → Same ks ks' → Same (ls ++ ks) (ls' ++ ks')
same_append {ls} {ls'} {ks} {ks'} e f =
    record {
      numbers = flat_map_append wide_line ls ks ∙ ap₂ {C = List ℕ} (λ a b. a ++ b) e.numbers f.numbers
          ∙ sym (flat_map_append (λ (l : Line). l.values) ls' ks');
    }

module _ (kind : ℕ) (between : Between 1 kind 2) where
  same_roles : (rs : List Role) → Each (OfKind kind) rs → Same (map (line_of_role kind) rs) (map (line_of_role 2) rs)
  unfolding line_of_role limits_roles
  same_roles [] h = same_nil
  same_roles (r ∷ rs) h =
      same-cons {l = line_of_role kind r} {k = line_of_role 2 r} (wide-numbers kind r between (each-head _ h)) (same_roles rs (each_tail _ h))

  same-pred : (p : Predicate) → Each (OfKind kind) p.roles → Same (lines_of_pred kind p) (lines_of_pred 2 p)
  unfolding lines_of_pred line_of_pred line_of_group added
  same-pred p h =
      same_append
      (same-cons {l = line_of_pred p} {k = line_of_pred p} refl (same_roles p.roles h))
      (same_whole (map line_of_group p.groups) (each_map Whole line_of_group p.groups (λ g m. refl)))

  same-preds : (ps : List Predicate) → Each (λ (p : Predicate). Each (OfKind kind) p.roles) ps
      → Same (flat_map (lines_of_pred kind) ps) (flat_map (lines_of_pred 2) ps)
  unfolding flat_map
  same-preds [] h = same_nil
  same-preds (p ∷ ps) h = same_append (same-pred p (each-head _ h)) (same-preds ps (each_tail _ h))

pub wide_as_limited : (d : Diagram) → WellFormed d → wide_table d ≡ d.kind ∷ drop 1 (table (limited d))
unfolding wide_table table lines line_of_count line_of_type flat_map added all_roles
wide_as_limited d w =
    let types : List Line = line_of_count types_line (length d.types) ∷ map line_of_type d.types in
    let preds : Line = line_of_count preds_line (length d.preds) in
    let end : Line = line_of_count end_line (length (all_roles d)) in
    let limits : Each (λ (p : Predicate). Each (OfKind d.kind) p.roles) d.preds =
    λ p m r k. w.limits r (in_flat_map (λ (q : Predicate). q.roles) m k) in
    ap (λ (rest : List ℕ). d.kind ∷ rest)
    (same_append
    (same_append (same_whole types (each-cons _ refl (each_map Whole line_of_type d.types (λ t m. refl))))
    (same-cons {l = preds} {k = preds} refl (same-preds d.kind w.kinds d.preds limits)))
    (same-cons {l = end} {k = end} refl same_nil)).numbers

-- A table of `diagram=2` has this form already
pub limited-table : (d : Diagram) → WellFormed d → d.kind ≡ 2 → wide_table d ≡ table d
unfolding table lines line_of_count flat_map
limited-table d w e =
    wide_as_limited d w ∙ ap (λ (k : ℕ). d.kind ∷ drop 1 (table (record { kind = k; types = d.types; preds = d.preds }))) (sym e)
