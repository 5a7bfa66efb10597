-- The numbers on a line of each kind, and what is made of them.
use Rattle.std.specs.Prelude.{ℕ, suc, ◌≡◌, refl, Bool, true, false, List, [], ◌∷◌, length, get_or}
use Rattle.std.proofs.Common.{sym, ap, ◌∙◌, subst}
use Rattle.orm.specs.Diagram.{Role, LineKind, type_line, pred_line, role_line, limited_role_line, freq_line, Line, limits_roles, role_line_of, line_of_type, line_of_role, line_of_group, line_of_count}
use Rattle.orm.specs.Form.{ranges, fields, count_of, type_of, role_of, group_of, PredHead, head_of}
use Rattle.reading.specs.Lines.{Spelling}

-- A list of `n` numbers, number by number
data Spelled : ℕ → List ℕ → Type 0 where
  end : Spelled 0 []
  one : {n x : ℕ} {xs : List ℕ} → Spelled n xs → Spelled (suc n) (x ∷ xs)

spell : (v : List ℕ) → Spelled (length v) v
spell [] = end
spell (x ∷ xs) = one (spell xs)

type-spelled : (v : List ℕ) → Spelled 6 v → line_of_type (type_of v) ≡ record { kind = type_line; values = v }
unfolding line_of_type
type-spelled v (one (one (one (one (one (one end)))))) = refl

-- with RMIN and RMAX, and without
limited-spelled : (v : List ℕ) → Spelled 5 v → get_or v 0 0 ∷ get_or v 1 0 ∷ get_or v 2 0 ∷ get_or v 3 0 ∷ get_or v 4 0 ∷ [] ≡ v
limited-spelled v (one (one (one (one (one end))))) = refl

role-spelled : (v : List ℕ) → Spelled 3 v → get_or v 0 0 ∷ get_or v 1 0 ∷ get_or v 2 0 ∷ [] ≡ v
role-spelled v (one (one (one end))) = refl

group-spelled : (v : List ℕ) → Spelled 2 v → line_of_group (group_of v) ≡ record { kind = freq_line; values = v }
unfolding line_of_group
group-spelled v (one (one end)) = refl

count-spelled : (k : LineKind) (v : List ℕ) → Spelled 1 v → line_of_count k (count_of v) ≡ record { kind = k; values = v }
unfolding line_of_count count_of
count-spelled k v (one end) = refl

-- the line of a `pred` line's numbers
unfoldable pub line_of_head : PredHead → Line
line_of_head p = record { kind = pred_line; values = p.min ∷ p.max ∷ p.roles ∷ p.groups ∷ [] }

head-spelled : (v : List ℕ) → Spelled 4 v → line_of_head (head_of v) ≡ record { kind = pred_line; values = v }
unfolding line_of_head
head-spelled v (one (one (one (one end)))) = refl

pub type-spelling : Spelling type_line type_of line_of_type
unfolding line_of_type fields ranges
type-spelling =
    record { spelled = λ v l. type-spelled v (subst (λ m. Spelled m v) l (spell v)); kind = λ a. refl; counted = λ a. refl }

-- A role line with RMIN and RMAX or without: its kind, what is made of its numbers, and its numbers
abbrev pub role_line_by : Bool → LineKind
role_line_by limited = elim limited [ true ↦ limited_role_line | false ↦ role_line ]

abbrev pub role_by : Bool → List ℕ → Role
role_by limited v = record {
  type = get_or v 0 0;
  mand = get_or v 1 0;
  group = get_or v 2 0;
  rmin = elim limited [ true ↦ get_or v 3 0 | false ↦ 1 ];
  rmax = elim limited [ true ↦ get_or v 4 0 | false ↦ 4096 ];
}

abbrev pub role_values_by : Bool → Role → List ℕ
role_values_by limited r = r.type ∷ r.mand ∷ r.group ∷ elim limited [ true ↦ r.rmin ∷ r.rmax ∷ [] | false ↦ [] ]

spelling-by : (b : Bool) → Spelling (role_line_by b) (role_by b) (λ r. record { kind = role_line_by b; values = role_values_by b r })
unfolding fields ranges
spelling-by true = record {
  spelled = λ v l. ap (λ (vs : List ℕ). record { kind = limited_role_line; values = vs }) (limited-spelled v (subst (λ m. Spelled m v) l (spell v)));
  kind = λ a. refl;
  counted = λ a. refl;
}
spelling-by false = record {
  spelled = λ v l. ap (λ (vs : List ℕ). record { kind = role_line; values = vs }) (role-spelled v (subst (λ m. Spelled m v) l (spell v)));
  kind = λ a. refl;
  counted = λ a. refl;
}

-- In a diagram of this kind
pub role-spelling : (kind : ℕ) → Spelling (role_line_of kind) (role_of kind) (line_of_role kind)
unfolding role_line_of line_of_role
role-spelling kind = spelling-by (limits_roles kind)

pub group-spelling : Spelling freq_line group_of line_of_group
unfolding line_of_group fields ranges
group-spelling =
    record { spelled = λ v l. group-spelled v (subst (λ m. Spelled m v) l (spell v)); kind = λ a. refl; counted = λ a. refl }

pub head-spelling : Spelling pred_line head_of line_of_head
unfolding line_of_head fields ranges
head-spelling =
    record { spelled = λ v l. head-spelled v (subst (λ m. Spelled m v) l (spell v)); kind = λ a. refl; counted = λ a. refl }

pub count-spelling : (k : LineKind) → fields k ≡ 1 → Spelling k count_of (line_of_count k)
unfolding line_of_count count_of
count-spelling k e =
    record {
      spelled = λ v l. count-spelled k v
          (subst (λ m. Spelled m v) (l ∙ e) (spell v));
      kind = λ a. refl;
      counted = λ a. sym e;
    }
