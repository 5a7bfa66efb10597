-- Faults of later constraints don't change which of K1 to K4 comes first.
use Rattle.std.specs.Prelude.{ℕ, zero, suc, ◌≤◌, ◌<◌, ◌≡◌, refl, true, false, List, [], ◌∷◌, eqb, get_or}
use Rattle.std.proofs.Common.{arith, ap, ◌∙◌}
use Rattle.std.proofs.Math.Dec.{eqb-suc-zero}
use Rattle.counting.proofs.Laws.Members.{each-head, each_tail}
use Rattle.orm.specs.Diagram.{Diagram}
use Rattle.orm.specs.Population.{Population}
use Rattle.orm.specs.Constraints.{Answer, breaks}
use Rattle.faults.specs.Faults.{Fault, noted, lowered, faults_of, first_entry}
use Rattle.faults.specs.Passes.{pred_faults}
use Rattle.faults.specs.Laws.Lowest.{noted_other}
use Rattle.faults.specs.Laws.Found.{From, each_part}

others_stay : (k j : ℕ) → k < j → (fs : List Fault) (e : List ℕ) → From j fs → get_or (lowered fs e) k 0 ≡ get_or e k 0
unfolding lowered
others_stay k j l [] e h = refl
others_stay k j l (f ∷ fs) e h = others_stay k j l fs (noted f e) (each_tail _ h) ∙ noted_other k f e (λ q. omega (arith, each-head _ h))

-- The first entry stays where the entries up to it do
same_first : (k n c m : ℕ) (e e' : List ℕ) → ((i : ℕ) → i ≤ c → get_or e' i 0 ≡ get_or e i 0) → first_entry k n e ≡ breaks c m
    → (k ≤ c) × (first_entry k n e' ≡ breaks c m)
unfolding first_entry
same_first k zero c m e e' s q = let z : ◌≡◌ {A = ℕ} 0 1 = cc in absurd (omega arith)
same_first k (suc n) c m e e' s q = go (get_or e k 0) (get_or e' k 0) (s k) q (same_first (suc k) n c m e e' s)
  where
    go : (x y : ℕ) → (k ≤ c → y ≡ x) → ◌≡◌ {A = Answer} (elim (eqb x 0) [ true ↦ first_entry (suc k) n e | false ↦ breaks k x ]) (breaks c m)
        → (first_entry (suc k) n e ≡ breaks c m → (suc k ≤ c) × (first_entry (suc k) n e' ≡ breaks c m))
        → (k ≤ c) × ◌≡◌ {A = Answer} (elim (eqb y 0) [ true ↦ first_entry (suc k) n e' | false ↦ breaks k y ]) (breaks c m)
    go zero y s p rest = let (l, r) = rest p in (omega arith, rw (s (omega arith)) r)
    go (suc x) y s p rest =
        let b : breaks k (suc x) ≡ breaks c m = rw (eqb-suc-zero x) at p in
        let z : k ≡ c = cc in
        (omega arith, rw (s (omega arith), eqb-suc-zero x) (ap (breaks k) (s (omega arith)) ∙ b))

-- What the pass over predicates finds does not change a first entry of K1 to K4
pub predicates-later : (d : Diagram) (o : Population) (e : List ℕ) (c m : ℕ) → c ≤ 4 → first_entry 1 11 e ≡ breaks c m
    → first_entry 1 11 (lowered (faults_of (pred_faults d o) 1 d.preds o.preds) e) ≡ breaks c m
unfolding pred_faults
predicates-later d o e c m h q = (same_first 1 11 c m e _ (λ i l. others_stay i 5 (omega arith) _ e from_5) q).1
  where
    from_5 : From 5 (faults_of (pred_faults d o) 1 d.preds o.preds)
    from_5 = search each_part depth 7
