-- The walk over predicates reads what their reader reads, and adds their numbers and totals to those so far.
use Prim.Native.Nat.{ℕ, zero, suc, ◌+◌}
use Rattle.std.proofs.Common.{arith, ap, ap₂, ◌∙◌}
use Rattle.std.proofs.Math.Nat.{add-zero}
use Rattle.std.specs.Prelude.{◌≡◌, Bool, ◌||◌, leb, eqb, get_or, drop}
use Rattle.std.proofs.Math.Path.{refl, sym}
use mathlib.Core.List.{List, [], ◌∷◌, ◌++◌, map, flat_map, append_assoc, append-nil}
use Rattle.std.proofs.Math.ListN.{length, length-append}
use Rattle.std.proofs.Math.Seq.{drop-append_seam}
use Rattle.counting.specs.Lists.{each, up_from}
use Rattle.counting.proofs.Laws.Range.{numbered-length}
use Rattle.orm.specs.Diagram.{Role, Frequency, Predicate, Totals, LineKind, pred_line, freq_line, role_line_of, line_of_role, line_of_group, line_of_pred, lines_of_pred}
use Rattle.orm.specs.Reader.{Reading, rejected, read, Reader, pure, for_each, Cut}
use Rattle.orm.proofs.Laws.Readers.{for_each-each}
use Rattle.orm.specs.Form.{◌unless◌, fields, named, PredHead, role_of, group_of, head_of, pred_tests, role_tests, group_tests, line, predicate, predicates}
use Rattle.reading.specs.Exact.{written, written_append}
use Rattle.reading.specs.Lines.{Cuts}
use Rattle.reading.specs.Cutting.{table_form}
use Rattle.reading.specs.Spelling.{line_of_head, role-spelling, group-spelling, head-spelling}
use Rattle.reading.specs.Walk.{Summary, roles_at, plus, groups_then, roles_then, from_end, from_preds}
use Rattle.reading.specs.Walks.Lines.{resume, numbers_of, one_line, lines-each}

-- One reader for each number from 1 on reads as many values
pub numbered-read : {A : Type 0} (f : ℕ → Reader A) (k n : ℕ) (s : List ℕ) (os : List A) (n' : ℕ) (rest : List ℕ)
    → for_each f (up_from 1 k) n s ≡ read os n' rest → length os ≡ k
numbered-read f k n s os n' rest e =
    numbered-length (λ i a. Unit {0}) 1 k os (for_each-each f (λ i a. Unit {0}) (λ i n s a m r q. tt) (up_from 1 k) n s e)

-- ---- the groups that the roles name stand behind what was read before them

groups-back : (kind g : ℕ) (rs : List Role) (ext : List ℕ)
    → named g (roles_at kind (length rs) (numbers_of (map (line_of_role kind) rs) ++ ext)) ≡ named g rs
unfolding each written flat_map line_of_role named
groups-back kind g [] ext = refl
groups-back kind g (r ∷ rs) ext =
    let values : List ℕ = (line_of_role kind r).values in
    let others : List ℕ = numbers_of (map (line_of_role kind) rs) in
    let behind : drop (fields (role_line_of kind)) ((values ++ others) ++ ext) ≡ others ++ ext =
    ap₂ drop (sym ((role-spelling kind).counted r)) (append_assoc values others ext) ∙ drop-append_seam values (others ++ ext) in
    ap (eqb r.group g ||◌) (ap (λ (l : List ℕ). named g (roles_at kind (length rs) l)) behind ∙ groups-back kind g rs ext)

tests_back : (kind : ℕ) (acc : List ℕ) (rs : List Role) (first k : ℕ) → length rs ≡ k → first ≡ length acc → (ext : List ℕ) (g : ℕ) (f : Frequency)
    → group_tests (roles_at kind k (drop first ((acc ++ numbers_of (map (line_of_role kind) rs)) ++ ext))) g f ≡ group_tests rs g f
unfolding group_tests
tests_back kind acc rs first k l e ext g f =
    let numbers : List ℕ = numbers_of (map (line_of_role kind) rs) in
    let behind : drop first ((acc ++ numbers) ++ ext) ≡ numbers ++ ext =
    ap₂ drop e (append_assoc acc numbers ext) ∙ drop-append_seam acc (numbers ++ ext) in
    ap (λ (b : Bool). 4 unless leb f.fmin f.fmax ∷ 5 unless b ∷ [])
    (ap₂ (λ (s : List ℕ) (n : ℕ). named g (roles_at kind n s)) behind (sym l) ∙ groups-back kind g rs ext)

-- ---- the numbers and totals of one predicate and those after it

abbrev pub roles_in : List Predicate → ℕ
roles_in ps = length (flat_map (λ (p : Predicate). p.roles) ps)

abbrev pub groups_in : List Predicate → ℕ
groups_in ps = length (flat_map (λ (p : Predicate). p.groups) ps)

abbrev predicate_of : PredHead → List Role → List Frequency → Predicate
predicate_of h rs gs = record { min = h.min; max = h.max; roles = rs; groups = gs }

pred-numbers : (kind : ℕ) (acc : List ℕ) (h : PredHead) (rs : List Role) (gs : List Frequency) (ps : List Predicate) → length rs ≡ h.roles
    → length gs ≡ h.groups
    → (((acc ++ (line_of_head h).values) ++ numbers_of (map (line_of_role kind) rs)) ++ numbers_of (map line_of_group gs))
    ++ numbers_of (flat_map (lines_of_pred kind) ps)
    ≡ acc ++ numbers_of (flat_map (lines_of_pred kind) (predicate_of h rs gs ∷ ps))
unfolding written flat_map lines_of_pred line_of_pred line_of_head
pred-numbers kind acc h rs gs ps lr lg =
    rw (lr, lg)
    (simp append_assoc
    (ap (λ (l : List ℕ). acc ++ (h.min ∷ h.max ∷ h.roles ∷ h.groups ∷ l))
    (sym (written_append table_form (map (line_of_role kind) rs ++ map line_of_group gs) (flat_map (lines_of_pred kind) ps)
    ∙ ap (λ (l : List ℕ). l ++ numbers_of (flat_map (lines_of_pred kind) ps)) (written_append table_form (map (line_of_role kind) rs) (map line_of_group gs))
    ∙ append_assoc (numbers_of (map (line_of_role kind) rs)) (numbers_of (map line_of_group gs)) (numbers_of (flat_map (lines_of_pred kind) ps))))))

module _ {form : LineKind → List ℕ → List ℕ} (next : LineKind → List ℕ → Cut) (cuts : Cuts form next) (kind : ℕ) where
  -- The end of the predicates that were read, with the totals before them
  abbrev pub ending : Totals → List ℕ → List Predicate → Reader Summary
  ending t acc ps = from_end next (plus t (roles_in ps) (groups_in ps)) (acc ++ numbers_of (flat_map (lines_of_pred kind) ps))

  -- The readers of a predicate's roles and groups
  abbrev roles_for : ℕ → PredHead → Reader (List Role)
  roles_for types h = for_each (λ (i : ℕ). line next (role_line_of kind) (role_of kind) (role_tests types h.groups)) (up_from 1 h.roles)

  abbrev groups_for : PredHead → List Role → Reader (List Frequency)
  groups_for h rs = for_each (λ (g : ℕ). line next freq_line group_of (group_tests rs g)) (up_from 1 h.groups)

  -- The walk over so many predicates comes to their reading
  abbrev Same : ℕ → Type 0
  Same left = (t : Totals) (acc : List ℕ) (n : ℕ) (s : List ℕ)
      → from_preds next kind t left acc n s ≡ resume (predicates next kind t.types t.roles t.groups left n s) (ending t acc)

  -- One predicate, where the walk over those after it is known
  module _ (left : ℕ) (ih : Same left) (t : Totals) (acc : List ℕ) where
    -- what follows the predicate `p`
    abbrev others : Predicate → Reader (List Predicate)
    others p m r =
        resume (predicates next kind t.types (t.roles + length p.roles) (t.groups + length p.groups) left m r) (λ ps. pure (p ∷ ps))

    abbrev then : PredHead → List ℕ → Reader Summary
    then h acc' = from_preds next kind (plus t h.roles h.groups) left acc'

    abbrev headed : PredHead → List ℕ
    headed h = acc ++ (line_of_head h).values

    last : (h : PredHead) (rs : List Role) (gs : List Frequency) → length rs ≡ h.roles → length gs ≡ h.groups
        → (o : Reading (List Predicate))
        → resume o (ending (plus t h.roles h.groups) ((headed h ++ numbers_of (map (line_of_role kind) rs)) ++ numbers_of (map line_of_group gs)))
        ≡ resume (resume o (λ ps. pure (predicate_of h rs gs ∷ ps))) (ending t acc)
    last h rs gs lr lg (rejected e at) = refl
    last h rs gs lr lg (read ps m r) =
        let roles : t.roles + h.roles + roles_in ps ≡ t.roles + roles_in (predicate_of h rs gs ∷ ps) =
        unfold flat_map in omega (arith, length-append rs (flat_map (λ (p : Predicate). p.roles) ps)) in
        let groups : t.groups + h.groups + groups_in ps ≡ t.groups + groups_in (predicate_of h rs gs ∷ ps) =
        unfold flat_map in omega (arith, length-append gs (flat_map (λ (p : Predicate). p.groups) ps)) in
        rw (pred-numbers kind acc h rs gs ps lr lg, roles, groups) refl

    groups : (h : PredHead) (rs : List Role) → length rs ≡ h.roles → (o : Reading (List Frequency))
        → ((gs : List Frequency) (m : ℕ) (r : List ℕ) → o ≡ read gs m r → length gs ≡ h.groups)
        → resume o (λ gs. then h ((headed h ++ numbers_of (map (line_of_role kind) rs)) ++ numbers_of (map line_of_group gs)))
        ≡ resume (resume (resume o (λ gs. pure (predicate_of h rs gs))) others) (ending t acc)
    groups h rs lr (rejected e at) lg = refl
    groups h rs lr (read gs m r) lg =
        let as_many : length gs ≡ h.groups = lg gs m r refl in
        ih (plus t h.roles h.groups) _ m r
        ∙ last h rs gs lr as_many (predicates next kind t.types (t.roles + h.roles) (t.groups + h.groups) left m r)
        ∙ ap₂ (λ (a b : ℕ). resume (resume (predicates next kind t.types (t.roles + a) (t.groups + b) left m r)
        (λ ps. pure (predicate_of h rs gs ∷ ps))) (ending t acc)) (sym lr) (sym as_many)

    roles : (h : PredHead) (o : Reading (List Role)) → ((rs : List Role) (m : ℕ) (r : List ℕ) → o ≡ read rs m r → length rs ≡ h.roles)
        → resume o (λ rs. groups_then next kind (length acc + 4) h.roles 1 h.groups (then h) (headed h ++ numbers_of (map (line_of_role kind) rs)))
        ≡ resume (resume (resume o (λ rs m r. resume (groups_for h rs m r) (λ gs. pure (predicate_of h rs gs)))) others) (ending t acc)
    unfolding groups_then line_of_head
    roles h (rejected e at) lr = refl
    roles h (read rs m r) lr =
        let as_many : length rs ≡ h.roles = lr rs m r refl in
        lines-each next cuts freq_line group_of line_of_group group-spelling (group_tests rs)
        (λ g l v. group_tests (roles_at kind h.roles (drop (length acc + 4) l)) g (group_of v)) (then h) 1 h.groups
        (headed h ++ numbers_of (map (line_of_role kind) rs)) m r
        (λ ext g v. tests_back kind (headed h) rs (length acc + 4) h.roles as_many (sym (length-append acc (line_of_head h).values)) ext g (group_of v))
        ∙ groups h rs as_many (groups_for h rs m r) (λ gs m' r' q. numbered-read _ h.groups m r gs m' r' q)

    heads : (o : Reading PredHead)
        → resume o (λ h. roles_then next kind t.types (length acc + 4) h.roles h.groups 1 h.roles (then h) (headed h))
        ≡ resume (resume (resume o (λ h m r. resume (roles_for t.types h m r)
        (λ rs m r. resume (groups_for h rs m r) (λ gs. pure (predicate_of h rs gs))))) others) (ending t acc)
    unfolding roles_then
    heads (rejected e at) = refl
    heads (read h m r) =
        lines-each next cuts (role_line_of kind) (role_of kind) (line_of_role kind) (role-spelling kind) (λ i. role_tests t.types h.groups)
        (λ i l v. role_tests t.types h.groups (role_of kind v))
        (groups_then next kind (length acc + 4) h.roles 1 h.groups (then h)) 1 h.roles
        (headed h) m r (λ ext i v. refl)
        ∙ roles h (roles_for t.types h m r) (λ rs m' r' q. numbered-read _ h.roles m r rs m' r' q)

  pub preds-same : (left : ℕ) → Same left
  unfolding from_preds predicates predicate flat_map written line_of_head
  preds-same zero t acc n s = sym (rw (add-zero t.roles, add-zero t.groups, append-nil acc) refl)
  preds-same (suc left) t acc n s =
      one_line next cuts pred_line head_of line_of_head head-spelling (pred_tests t.roles t.groups)
      (λ v. pred_tests t.roles t.groups (head_of v))
      (λ v. roles_then next kind t.types (length acc + length v) (get_or v 2 0) (get_or v 3 0) 1 (get_or v 2 0)
      (from_preds next kind (plus t (get_or v 2 0) (get_or v 3 0)) left)) acc n s (λ v. refl)
      ∙ heads left (preds-same left) t acc (line next pred_line head_of (pred_tests t.roles t.groups) n s)
