-- The loops that put limits to use: along the operands that name a set, and over the sets that changed.
use Prim.Native.Nat.{ℕ, suc, ◌+◌, ◌-◌, ◌≤◌, ◌<◌}
use Rattle.std.specs.Prelude.{◌≡◌, refl, ◌⊎◌, zero, [], ◌∷◌, slice_index, slice_index_or, slice_set, map, not, eqb, ◌++◌, drop}
use Rattle.std.proofs.Common.{sym, ap, subst, ◌∙◌, inl, inr, arith}
use mathlib.Core.List.{List, append-nil}
use Rattle.std.proofs.Math.Decide.{ℕ_discrete}
use Rattle.std.proofs.Math.ListN.{length, take}
use Rattle.std.proofs.Common.{add-one, take_all, drop_of_length-le}
use Rattle.std.proofs.lemmas.List.{length-map}
use Rattle.std.proofs.lemmas.List.Sums.{fold-append}
use Rattle.lowering.specs.Laws.Limits.{at-map}
use Rattle.counting.specs.Terms.{◌∈◌}
use Rattle.counting.specs.Index.{At}
use Rattle.counting.proofs.Laws.Index.{at_in, in_at, at-unique}
use Rattle.fixpoint.specs.Limits.{Limit, lowered, round}
use Rattle.fixpoint.specs.Notions.{◌≼◌}
use Rattle.fixpoint.proofs.Laws.Order.{≼_refl, ≼_trans}
use Rattle.counting.specs.Lists.{when}
use Rattle.buffer.specs.Written.{Wrote, WroteAll, place_of, put, puts}
use Rattle.buffer.specs.declared.output.Output.{Output}
use Rattle.lowering.specs.Closed.{operands_of}
use Rattle.dependents.specs.declared.Use.{Use}
use Rattle.dependents.specs.Dependents.{use_at, On, here, behind, Linked, differing, Lowering, Done, Served, Used, Due}
use Rattle.dependents.specs.Laws.Lowering.{lowering-start, lowering-more, lowered_≼, lowered-done, done-since, served-since, due-round}
use Rattle.dependents.specs.Laws.Differing.{differing-below, differing_more}

-- ---- along the operands that name the set s: the limits that are left are those from q on

pub record Walking (ls : List Limit) (last : List ℕ) (uses : List Use) (s : ℕ) (old new₀ : List ℕ) (q : ℕ) (new : List ℕ) : Type 0 where
  pub linked : Linked ls last uses
  pub small : q ≤ linked.count
  pub lowering : Lowering ls old new
  pub since : new ≼ new₀
  pub left : (l : Limit) (i : ℕ) → At l ls i → s ∈ operands_of l.most → Done old new l ⊎ On uses i q

none_on : {uses : List Use} {i q : ℕ} → On uses i q → q ≡ 0 → ⊥
none_on (here h) e = absurd (omega arith)
none_on (behind o) e = absurd (omega arith)

module _ {ls : List Limit} {last : List ℕ} {uses : List Use} {old : List ℕ} {s : ℕ} where
  pub walking_start : {new : List ℕ} → Linked ls last uses → s < length last → Lowering ls old new
      → Walking ls last uses s old new (slice_index last s) new
  walking_start k h w = record {
    linked = k;
    small = k.head s;
    lowering = w;
    since = ≼_refl _;
    left = λ l i a m. inr (k.complete s i l a m h);
  }

  module _ {new₀ : List ℕ} {q : ℕ} {new : List ℕ} (w : Walking ls last uses s old new₀ q new) where
    pub walk_used : q ≡ 0 → Used ls old s new₀ new
    walk_used e = record {
      lowering = w.lowering;
      since = w.since;
      served = record { at = λ l m o. let (i, a) = in_at m in done (w.left l i a o) };
    }
      where
        done : {l : Limit} {i : ℕ} → Done old new l ⊎ On uses i q → Done old new l
        done (inl d) = d
        done (inr o) = absurd (none_on o e)

    module _ (n : q ≡ 0 → ⊥) where
      abbrev u : Use
      u = use_at uses (q - 1)

      pub walk_at : {A : Type 0} (f : A → Limit) (xs : List A) (d : A) → ls ≡ map f xs → At (f (slice_index_or xs u.limit d)) ls u.limit
      walk_at f xs d e =
          rw e (at-map f xs u.limit d (omega (arith, w.linked.owner (q - 1) (omega (arith, w.small)), ap length e, length-map xs f)))

      pub walk_more : {l : Limit} {new' : List ℕ} → At l ls u.limit → new' ≡ lowered old l new → Walking ls last uses s old new₀ u.before new'
      walk_more {l} {new'} a e = record {
        linked = w.linked;
        small = omega (arith, w.small, w.linked.back (q - 1) (omega (arith, w.small)));
        lowering = lowering-more old new l e (at_in a) w.lowering;
        since = ≼_trans (lowered_≼ old new l e) w.since;
        left = λ m i b o. go (w.left m i b o) b;
      }
        where
          at : (k : ℕ) → q ≡ suc k → use_at uses k ≡ u
          at k z = let d : k ≡ q - 1 = omega arith in ap (use_at uses) d

          on : {m : Limit} {i k : ℕ} → On uses i k → q ≡ k → At m ls i → Done old new' m ⊎ On uses i u.before
          on {m} {i} (here {q = k} h) z b =
              let same : u.limit ≡ i = ap (λ (v : Use). v.limit) (sym (at k z)) ∙ h in
              inl (subst (Done old new') (at-unique (subst (At l ls) same a) b) (lowered-done old new l e))
          on {m} {i} (behind {q = k} o) z b = inr (subst (λ (v : Use). On uses i v.before) (at k z) o)

          go : {m : Limit} {i : ℕ} → Done old new m ⊎ On uses i q → At m ls i → Done old new' m ⊎ On uses i u.before
          go (inl d) b = inl (done-since (lowered_≼ old new l e) d)
          go (inr o) b = on o refl b

-- ---- over the sets that changed: the limits of the first i have been put to use

pub record Listing (ls : List Limit) (sets old : List ℕ) (i : ℕ) (new : List ℕ) : Type 0 where
  pub lowering : Lowering ls old new
  pub served : (j : ℕ) → j < i → Served ls old new (slice_index sets j)

module _ {ls : List Limit} {last : List ℕ} {uses : List Use} {sets old : List ℕ} (d : Due ls last uses sets old) where
  pub due-set : (i : ℕ) → i < length sets → slice_index sets i < length last
  due-set i h = rw d.listed (omega (arith, d.heads, differing-below 0 d.before old i (rw d.listed at h)))

  pub listing_all : (i : ℕ) (new : List ℕ) → Listing ls sets old i new → length sets ≤ i → new ≡ round ls old
  listing_all i new w h = due-round d w.lowering (λ j l. w.served j (omega arith))

module _ (ls : List Limit) (sets old : List ℕ) where
  pub listing_start : {new : List ℕ} → new ≡ old → Listing ls sets old 0 new
  listing_start e = record { lowering = lowering-start e; served = λ j l. absurd (omega arith) }

  module _ (i : ℕ) (new : List ℕ) (w : Listing ls sets old i new) where
    pub listing_more : {new' : List ℕ} → Used ls old (slice_index sets i) new new' → Listing ls sets old (i + 1) new'
    listing_more {new'} u = record { lowering = u.lowering; served = λ j l. go j l (ℕ_discrete j i) }
      where
        go : (j : ℕ) → j < i + 1 → Dec (j ≡ i) → Served ls old new' (slice_index sets j)
        go j l (yes e) = rw e u.served
        go j l (no n) = served-since u.since (w.served j (omega arith))

-- ---- the sets listed

wrote_then : {old mid new : Output ℕ} {xs ys : List ℕ} → Wrote old xs mid → Wrote mid ys new → Wrote old (xs ++ ys) new
wrote_then {old = old} {xs = xs} {ys = ys} v w = record { same = w.same ∙ v.same; is = w.is ∙ ap (λ p. puts p ys) v.is ∙ sym (fold-append put (place_of old) xs ys) }

-- The first i sizes are taken over
abbrev pub taken : List ℕ → List ℕ → ℕ → List ℕ
taken c c' i = take i c' ++ drop i c

taken-set : (c c' : List ℕ) (i : ℕ) → i < length c → i < length c' → slice_set (taken c c' i) i (slice_index c' i) ≡ taken c c' (suc i)
taken-set [] c' i h h' = absurd (omega arith)
taken-set (x ∷ c) [] i h h' = absurd (omega arith)
taken-set (x ∷ c) (y ∷ c') zero h h' = refl
taken-set (x ∷ c) (y ∷ c') (suc i) h h' = ap (λ (l : List ℕ). y ∷ l) (taken-set c c' i (omega arith) (omega arith))

taken-at : (c c' : List ℕ) (i : ℕ) → i < length c → i < length c' → slice_index (taken c c' i) i ≡ slice_index c i
taken-at [] c' i h h' = absurd (omega arith)
taken-at (x ∷ c) [] i h h' = absurd (omega arith)
taken-at (x ∷ c) (y ∷ c') zero h h' = refl
taken-at (x ∷ c) (y ∷ c') (suc i) h h' = taken-at c c' i (omega arith) (omega arith)

pub taken-more : (c c' : List ℕ) (i : ℕ) {b b' : List ℕ} → i < length c → i < length c' → b ≡ taken c c' i
    → b' ≡ slice_set b i (slice_index c' i) → b' ≡ taken c c' (i + 1)
taken-more c c' i {b} h h' e f = rw add-one (f ∙ ap (λ (l : List ℕ). slice_set l i (slice_index c' i)) e ∙ taken-set c c' i h h')

pub taken-start : (c c' : List ℕ) → c ≡ taken c c' 0
taken-start c c' = refl

pub taken-all : (c c' : List ℕ) (i : ℕ) {b : List ℕ} → length c ≡ length c' → length c' ≤ i → b ≡ taken c c' i → b ≡ c'
taken-all c c' i {b} e h q =
    let behind : drop i c ≡ [] = drop_of_length-le c (omega arith) in
    q ∙ ap (λ (l : List ℕ). take i c' ++ l) behind ∙ append-nil (take i c') ∙ take_all i c' h

pub listed_more : (c c' : List ℕ) (i : ℕ) {b : List ℕ} {old mid new : Output ℕ} → i < length c → i < length c' → b ≡ taken c c' i
    → Wrote old (differing 0 (take i c) (take i c')) mid → Wrote mid (when (not (eqb (slice_index b i) (slice_index c' i))) i) new
    → Wrote old (differing 0 (take (i + 1) c) (take (i + 1) c')) new
listed_more c c' i {b} {old} {mid} {new} h h' q v w =
    let e : 0 + i ≡ i = omega arith in
    let same : slice_index b i ≡ slice_index c i = ap (λ (l : List ℕ). slice_index l i) q ∙ taken-at c c' i h h' in
    let more = differing_more 0 i c c' h h' ∙ ap (λ j. differing 0 (take i c) (take i c') ++ when (not (eqb (slice_index c i) (slice_index c' i))) j) e in
    rw (add-one, more) (wrote_then v (rw same at w))

pub listed_all : (c c' : List ℕ) (i : ℕ) {old new : List ℕ} {at : ℕ} → length c ≤ i → length c' ≤ i
    → WroteAll old (differing 0 (take i c) (take i c')) new at → WroteAll old (differing 0 c c') new at
listed_all c c' i h h' w = rw (take_all i c h, take_all i c' h') at w
