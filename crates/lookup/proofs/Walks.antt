-- Walks over a column and over marks: what was tested or met and what is left come to all.
use Prim.Native.Nat.{ℕ, suc, ◌+◌, ◌-◌, ◌≤◌, ◌<◌}
use native.Mathlib.Omega.{arith}
use native.Mathlib.Numerals.{add-one}
use mathlib.Core.Path.{◌≡◌, refl, sym, ap, ◌∙◌}
use mathlib.Core.Bool.{Bool, true, false, not, ◌&&◌, ◌||◌, false≢true}
use mathlib.Core.List.{List, [], ◌∷◌}
use lib.Dec.{eqb}
use lib.ListN.{length, get_or, drop, set, length-set, drop_of_length-le}
use lib.Seq.{set-get_or, get_or-set_same, get_or-set_other, drop-cons}
use borrow.Author.Tests.{eq-eqb, ne_eqb, eqb-true, eqb-false}
use Rattle.counting.specs.Totals.{bit}
use Rattle.counting.specs.Terms.{◌∈◌}
use Rattle.counting.specs.Distinct.{member, distinct, within, all}
use Rattle.counting.proofs.Laws.Members.{get_or_in}
use Rattle.counting.proofs.Laws.Distinct.{length-distinct-cons, member_decides}
use Rattle.counting.proofs.Laws.Instances.{eqb_decides}
use Rattle.sorting.proofs.Rising.{rising-apart}
use Rattle.sorting.specs.Search.{place_of}
use Rattle.sorting.proofs.Search.{place_in, place-holds}
use Rattle.order.specs.Steps.{placed}
use Rattle.std.specs.Prelude.{Option, Some, None, Ok, Err}
use Rattle.std.specs.Option.{is_some}
use Rattle.std.specs.List.{list_any}
use Rattle.columns.specs.declared.column.Column.{Column}
use Rattle.columns.specs.Values.{values_in, length-spaced}
use Rattle.lookup.specs.declared.Met.{Met}
use Rattle.lookup.specs.Stamps.{stamped_if, among, Marked, is_set, member-among}
use Rattle.lookup.specs.Counts.{Fresh, Looking, Looked, Next, looked-inside, looked-outside}

-- ---- whether all values of a column are members

module _ (c : Column) (ws : List ℕ) where
  pub record WithinLeft (i : ℕ) : Type 0 where
    pub left : within eqb (drop i (values_in c)) ws ≡ within eqb (values_in c) ws

  long : length (values_in c) ≡ c.count
  long = length-spaced c.count c.step (drop c.start c.cells.now)

  module _ (i : ℕ) (w : WithinLeft i) where
    pub within_none : c.count ≤ i → true ≡ within eqb (values_in c) ws
    unfolding within
    within_none h = let k : length (values_in c) ≤ i = omega (arith, long) in rw (drop_of_length-le (values_in c) k) at w.left

    module _ {v : ℕ} {o : Option ℕ} (b : Bool) (h : i < c.count) (e : v ≡ get_or (values_in c) i 0) (q : o ≡ placed v ws) (n : is_some o ≡ not b) where
      opened : (member eqb v ws && within eqb (drop (suc i) (values_in c)) ws) ≡ within eqb (values_in c) ws
      unfolding within
      opened = rw e (rw (drop-cons (values_in c) i 0 (omega (arith, long)), within) at w.left)

      there : not b ≡ member eqb v ws
      there = sym n ∙ ap is_some q ∙ go (member eqb v ws)
        where
          go : (m : Bool) → is_some {T = ℕ} (elim m [ true ↦ Some (place_of v ws) | false ↦ None ]) ≡ m
          go true = refl
          go false = refl

      pub within-not : b ≡ true → false ≡ within eqb (values_in c) ws
      within-not z = rw (← there, z) at opened

      pub within_more : b ≡ false → WithinLeft (i + 1)
      within_more z = record { left = rw add-one (rw (← there, z) at opened) }

-- ---- one value met

module _ (ws ms : List ℕ) (k x : ℕ) (met : Met) {o : Option ℕ} (e : o ≡ placed x ws) (h : Marked ws ms) where
  -- it is no member
  pub next-absent : ((i : ℕ) → o ≡ Some i → ⊥) → Next ws k x ms met ms (record { all = false; count = met.count })
  unfolding within member among
  next-absent n =
      let no : member eqb x ws ≡ false = go (member eqb x ws) refl e in
      let never : (w : ℕ) → w ∈ ws → ¬ (w ≡ x) = λ w m z. false≢true (sym no ∙ (member_decides eqb_decides x ws).1 (rw z at m)) in
      record {
        looked = λ ms₀ vs f p. record {
          marked = h;
          mark = λ j b. rw (member, ne_eqb (get_or ws j 0) x (never (get_or ws j 0) (get_or_in ws j 0 b))) (p.mark j b);
          all = rw (within, no);
          count = rw (among, no) p.count;
        };
      }
    where
      go : (b : Bool) → member eqb x ws ≡ b → ◌≡◌ {A = Option ℕ} o (elim b [ true ↦ Some (place_of x ws) | false ↦ None ]) → b ≡ false
      go true m q = absurd (n _ q)
      go false m q = refl

  module _ {i : ℕ} (some : o ≡ Some i) where
    found : (member eqb x ws ≡ true) × (i ≡ place_of x ws)
    found = go (member eqb x ws) refl (sym some ∙ e)
      where
        go : (b : Bool) → member eqb x ws ≡ b → ◌≡◌ {A = Option ℕ} (Some i) (elim b [ true ↦ Some (place_of x ws) | false ↦ None ])
            → (b ≡ true) × (i ≡ place_of x ws)
        go true m q = (refl, cc)
        go false m q = let z : ◌≡◌ {A = ℕ} 0 1 = cc in absurd (omega arith)

    present : member eqb x ws ≡ true
    present = found.0

    pub place-marked : i < length ms
    place-marked = omega (arith, found.1, place_in x ws h.rising present, h.long)

    holds : get_or ws i 0 ≡ x
    holds = rw found.1 (place-holds x ws h.rising present)

    -- it is a member, and its mark becomes k
    next-is : (met' : Met) → met'.all ≡ met.all → met'.count ≡ met.count + bit (not (eqb (get_or ms i 0) k)) → Next ws k x ms met (set ms i k) met'
    unfolding within member among bit
    next-is met' a c = record {
      looked = λ ms₀ vs f p. (let d : length (distinct eqb (x ∷ among ws vs)) ≡ _ =
          rw (member-among x ws vs present, seen ms₀ vs f p) at (length-distinct-cons eqb x (among ws vs)) in record {
            marked = record { rising = h.rising; long = length-set ms i k ∙ h.long };
            mark = λ j b. set-mark ms₀ vs j b (p.mark j b) (eqb j i) refl;
            all = rw (within, present) (a ∙ p.all);
            count = rw (among, present) (omega (arith, p.count));
          });
    }
      where
        seen : (ms₀ vs : List ℕ) → Fresh ws ms₀ k → Looking ws ms₀ k vs ms met → member eqb x vs ≡ eqb (get_or ms i 0) k
        seen ms₀ vs f p = go (member eqb x vs) (rw holds at (p.mark i (omega (arith, h.long, place-marked))))
          where
            go : (b : Bool) → get_or ms i 0 ≡ stamped_if b k (get_or ms₀ i 0) → b ≡ eqb (get_or ms i 0) k
            go true q = sym (eq-eqb _ _ q)
            go false q = sym (ne_eqb (get_or ms i 0) k (λ z. omega (arith, f.below i (omega (arith, f.marked.long, h.long, place-marked)))))

        set-mark : (ms₀ vs : List ℕ) (j : ℕ) → j < length ws → get_or ms j 0 ≡ stamped_if (member eqb (get_or ws j 0) vs) k (get_or ms₀ j 0)
            → (b : Bool) → eqb j i ≡ b → get_or (set ms i k) j 0 ≡ stamped_if (member eqb (get_or ws j 0) (x ∷ vs)) k (get_or ms₀ j 0)
        set-mark ms₀ vs j b p true q = let z : j ≡ i = eqb-true j i q in rw (z, holds, member, eq-eqb x x refl) (get_or-set_same ms i k 0 place-marked)
        set-mark ms₀ vs j b p false q =
            let n : ¬ (get_or ws j 0 ≡ x) = λ z. eqb-false j i q (rising-apart ws j i h.rising b (omega (arith, h.long, place-marked)) (z ∙ sym holds)) in
            rw (member, ne_eqb (get_or ws j 0) x n) (get_or-set_other ms i j k 0 (eqb-false j i q) ∙ p)

    -- it has the stamp already
    pub next_again : get_or ms i 0 ≡ k → Next ws k x ms met ms met
    unfolding bit
    next_again m =
        let same : set ms i k ≡ ms = rw (← m) (set-get_or ms i 0) in
        rw same at (next-is met refl (rw (eq-eqb (get_or ms i 0) k m) (omega arith)))

    pub next-new : (get_or ms i 0 ≡ k → ⊥) → Next ws k x ms met (set ms i k) (record { all = met.all; count = met.count + 1 })
    unfolding bit
    next-new n = next-is _ refl (rw (ne_eqb (get_or ms i 0) k n))

-- ---- values met, from the last on: all but the first `left` were looked up

module _ (vs ws ms₀ : List ℕ) (k : ℕ) where
  pub record Meeting (ms : List ℕ) (left : ℕ) (met : Met) : Type 0 where
    pub few : met.count + left ≤ length vs
    pub looked : Looking ws ms₀ k (drop left vs) ms met

  pub meeting_start : {n : ℕ} → Fresh ws ms₀ k → n ≡ length vs → Meeting ms₀ n (record { all = true; count = 0 })
  unfolding within member distinct among
  meeting_start {n} f e = record {
    few = omega arith;
    looked = (let h : length vs ≤ n = omega arith in rw (drop_of_length-le vs h) (record { marked = f.marked; mark = λ j b. refl; all = refl; count = refl }));
  }

  module _ (ms : List ℕ) (left : ℕ) (met : Met) (i : Meeting ms left met) where
    pub meeting-small : length vs < 4294967296 → 0 < left → met.count < 18446744073709551615
    meeting-small h l = omega (arith, i.few)

    pub meeting_more : {x : ℕ} {ms' : List ℕ} {met' : Met} → Next ws k x ms met ms' met' → Fresh ws ms₀ k → 0 < left
        → met'.count ≤ met.count + 1 → x ≡ get_or vs (left - 1) 0 → Meeting ms' (left - 1) met'
    meeting_more {x} {ms'} {met'} n f h b v =
        let e : left ≡ suc (left - 1) = omega arith in
        record {
          few = omega (arith, i.few);
          looked = rw (drop-cons vs (left - 1) 0 (omega (arith, i.few)), ← v) (n.looked ms₀ _ f (rw e at i.looked));
        }

    pub meeting-inside : left ≤ 0 → met.all ≡ true → Looked ws ms₀ k vs ms (Ok met.count)
    meeting-inside h e = let z : left ≡ 0 = omega arith in looked-inside (rw z at i.looked) e

    pub meeting-outside : left ≤ 0 → met.all ≡ false → Looked ws ms₀ k vs ms (Err met.count)
    meeting-outside h e = let z : left ≡ 0 = omega arith in looked-outside (rw z at i.looked) e

-- ---- marks

all-set : (ms : List ℕ) → not (list_any (λ m. eqb m 0) ms) ≡ all is_set ms
unfolding all is_set
all-set [] = refl
all-set (m ∷ ms) = go (eqb m 0) (all-set ms)
  where
    go : (b : Bool) → not (list_any (λ n. eqb n 0) ms) ≡ all is_set ms → not (b || list_any (λ n. eqb n 0) ms) ≡ (not b && all is_set ms)
    go true h = refl
    go false h = h

pub all-marked : (ms : List ℕ) {b : Bool} → b ≡ list_any (λ m. eqb m 0) ms → not b ≡ all is_set ms
all-marked ms e = ap not e ∙ all-set ms
