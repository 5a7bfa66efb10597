-- The proof of S-2's statement.
use Prim.Native.Nat.{ℕ, suc, min, ◌≤◌, ◌<◌}
use Rattle.std.proofs.Math.Nat.{le_antisymm, le-min, min-le_left, min-le_right}
use Rattle.std.proofs.Common.{mul-one, arith, sym, ◌∙◌, inl, ⊎_elim, eqb-true, ne_eqb}
use Rattle.std.proofs.Math.Decide.{dec_le}
use Rattle.std.specs.Prelude.{◌≡◌, refl, Bool, true, false, not, ◌&&◌, ◌||◌, List, [], ◌∷◌, eqb}
use Rattle.std.proofs.lemmas.Bool.{false≢true, eqb-false}
use mathlib.Core.List.Memᴰ
use mathlib.Core.List.Memᴰ.{head as here}
use mathlib.Core.List.Memᴰ.{tail as there}
use Rattle.std.proofs.Math.ListN.{length, get_or}
use Rattle.counting.specs.Distinct.{within}
use Rattle.counting.specs.Terms.{◌∈◌}
use Rattle.counting.specs.Totals.{sum_over, product_over}
use Rattle.counting.proofs.Laws.Index.{at_in, at-below, each-from-at}
use Rattle.counting.specs.Index.{At}
use Rattle.fixpoint.specs.Limits.{Limit, sum, value_of, upper_after}
use Rattle.fixpoint.proofs.Laws.Order.{greatest-entry}
use Rattle.fixpoint.proofs.Laws.Round.{round-target}
use Rattle.orm.specs.Diagram.{ObjectType, Diagram, is_root, is_independent, plays, must_play, index, all_roles}
use Rattle.orm.specs.Text.{table_line}
use Rattle.orm.specs.Sets.{roles_of_type, lower, upper, upper_of_type, at_most, only_if, limits_of_type, limits, verdict_from}
use Rattle.orm.specs.Population.{Population}
use Rattle.orm.specs.Populate.{size}
use Rattle.orm.specs.Constraints.{values_in_roles, all_played, K10, breaks, answer, sizes}
use Rattle.orm.specs.Outcome.{Outcome, refused, accepted, ◌>>=◌, Sized}
use Rattle.orm.specs.Calls.{diagram_in, population_in, validate_call}
use Rattle.orm.specs.Program.{program}
use Rattle.orm.specs.Meaning.{Plays, MustPlay}
use Rattle.orm.specs.WellFormed.{TypeForm, WellFormed}
use Rattle.orm.proofs.Laws.Decided.{plays_decides, must_play_decides}
use Rattle.orm.proofs.Laws.Limits.{only-own}
use Rattle.orm.proofs.Laws.Named.{Fails, named-K10}
use Rattle.orm.proofs.Laws.Rounds.{own-bounds, verdict-laws}
use Rattle.orm.proofs.Laws.Select.{of-select}
use Rattle.orm.proofs.Cases.All.{everything}
use Rattle.orm.specs.Sample.{text, sample_with}
use Rattle.reading.specs.Laws.{table-accepted-iff}
use Rattle.sound.proofs.Laws.{valid-laws}
use Rattle.complete.specs.Solved.{Solved}
use Rattle.complete.proofs.Solved.{count, lower-type, upper-type, type-limit_in, type-form, type-least, type-most, type-super, type-sum}
use Rattle.complete.proofs.Laws.{fixpoint-solved}
use Rattle.guarantee.specs.Guarantee.{NoPopulation, EmptiedAt, RefusesEmptied, Populated, TableGuarantee}
use Rattle.guarantee.proofs.Guarantee.{guarantee}
use Rattle.guarantee.specs.Subtypes.{FreeSubtype, RolelessRoot, K10In01, RefusesAtOnce, TableSubtypes, Subtypes}

-- ---- who must play

not-must : {d : Diagram} {number : ℕ} {t : ObjectType} → FreeSubtype d number t → must_play d number t ≡ false
not-must {d} {number} {t} f = go (must_play d number t) refl
  where
    go : (b : Bool) → must_play d number t ≡ b → b ≡ false
    go false e = refl
    go true e = absurd (⊎_elim f.subtype f.roleless ((must_play_decides d number t).0 e).1)

-- any other type must where it is not independent
must-other : (d : Diagram) (number : ℕ) (t : ObjectType) → ¬ FreeSubtype d number t → must_play d number t ≡ not (is_independent t)
unfolding must_play is_independent is_root
must-other d number t n = go (eqb t.indep 1) (eqb t.super 0) (plays number (all_roles d)) refl refl refl
  where
    go : (i r p : Bool) → eqb t.indep 1 ≡ i → eqb t.super 0 ≡ r → plays number (all_roles d) ≡ p → (not i && (r || p)) ≡ not i
    go true r p ei er ep = refl
    go false true p ei er ep = refl
    go false false true ei er ep = refl
    go false false false ei er ep =
        absurd (n (record {
          dependent = eqb-false t.indep 1 ei;
          subtype = eqb-false t.super 0 er;
          roleless = λ h. false≢true (sym ep ∙ (plays_decides number (all_roles d)).1 h);
        }))

free_K10 : {d : Diagram} {number : ℕ} {t : ObjectType} → FreeSubtype d number t → (o : Population) (vs : List ℕ) → K10 d o number t vs ≡ true
unfolding K10
free_K10 f o vs = rw (not-must f, K10)

-- ---- the limits of a free subtype

free-limits : {d : Diagram} {a : ℕ} {t : ObjectType} → FreeSubtype d (suc a) t → limits_of_type d a t ≡ at_most a (index t.super) ∷ []
unfolding limits_of_type only_if is_root
free-limits {t = t} f = rw (not-must f, ne_eqb t.super 0 f.subtype)

free_limit : {d : Diagram} → WellFormed d → {a : ℕ} {t : ObjectType} → At t d.types a → FreeSubtype d (suc a) t
    → (l : Limit) → l ∈ limits d → l.target ≡ a → l ≡ at_most a (index t.super)
free_limit w h f l m e = one (rw (free-limits f) at (only-own w h f.roleless l m e))
  where
    one : {k : Limit} → l ∈ (k ∷ []) → l ≡ k
    one (here q) = q
    one (there i) = absurd (Memᴰ.not-nil i)

-- ---- it settles at the smaller of its starting upper bound and its supertype's size

value-at-most : (c : List ℕ) (s t : ℕ) → value_of c (at_most s t).most ≡ get_or c t 0
unfolding at_most value_of product_over
value-at-most c s t = mul-one _

module _ {table : List ℕ} {d : Diagram} (w : WellFormed d) {a : ℕ} {t : ObjectType} (h : At t d.types a) (f : FreeSubtype d (suc a) t)
    (p : Populated table d) where
  abbrev c : List ℕ
  c = p.settled

  solved : Solved d c
  solved = fixpoint-solved w (own-bounds d) p.settled_after.defined

  settles : size c a ≡ min (upper_of_type t) (size c (index t.super))
  unfolding verdict_from
  settles =
      let most : ℕ = min (upper_of_type t) (size c (index t.super)) in
      let greatest = (((verdict-laws d).fixpoint_iff c).0 (p.rounds, p.settled_after.defined)).1 in
      let inside : a < length c = omega (arith, count solved, at-below h) in
      let under : most ≤ get_or (upper d) a 0 = rw (upper-type d h) (min-le_left _ _) in
      le_antisymm
      (le-min (type-most solved h) (type-super solved h f.subtype))
      (greatest-entry greatest a most inside under
      (λ l m e. rw (free_limit w h f l m e, value-at-most c a (index t.super)) (min-le_right _ _)))

-- ---- validating

failed_must : (d : Diagram) (o : Population) (number : ℕ) (t : ObjectType) (vs : List ℕ) → K10 d o number t vs ≡ false → MustPlay d number t
unfolding K10
failed_must d o number t vs k = go (must_play d number t) refl
  where
    go : (b : Bool) → must_play d number t ≡ b → MustPlay d number t
    go true e = (must_play_decides d number t).0 e
    go false e = let kept : K10 d o number t vs ≡ true = rw (e, K10) in absurd (false≢true (sym k ∙ kept))

validated : (table : List ℕ) (d : Diagram) → diagram_in table_line table ≡ accepted d → (s : List ℕ) (number : ℕ)
    → validate_call table s ≡ accepted (breaks 10 number) → (a : ℕ) × (t : ObjectType) × At t d.types a × (number ≡ suc a) × MustPlay d number t
unfolding validate_call
validated table d e s number q = go (population_in d s) (rw (e, validate_call) at q)
  where
    go : (r : Outcome Population) → (r >>= λ o. accepted (answer d o)) ≡ accepted (breaks 10 number)
        → (a : ℕ) × (t : ObjectType) × At t d.types a × (number ≡ suc a) × MustPlay d number t
    go (refused n place round) z = let y : ◌≡◌ {A = ℕ} 0 1 = cc in absurd (omega arith)
    go (accepted o) z =
        let f : Fails (K10 d o) d o number = named-K10 d o (cc) in
        (f.place, f.type, f.standing, f.numbered, failed_must d o number f.type f.members f.fails)

-- ---- roots without roles

none-played : (d : Diagram) (number : ℕ) → ¬ Plays number (all_roles d) → (f : ℕ → ℕ) → sum_over f (roles_of_type d number) ≡ 0
unfolding roles_of_type sum_over
none-played d number none f = go (roles_of_type d number) (λ s m. let (k, r, at, e, q) = of-select _ _ _ m in none (r, at_in at, eqb-true _ _ q))
  where
    go : (l : List ℕ) → ((s : ℕ) → ¬ (s ∈ l)) → sum_over f l ≡ 0
    go [] n = refl
    go (s ∷ l) n = absurd (n s (here refl))

no_population : {d : Diagram} {a : ℕ} {t : ObjectType} → WellFormed d → At t d.types a → RolelessRoot d (suc a) t → NoPopulation d
no_population {d} {a} form h r s o =
    let l = valid-laws d form s o in
    let solved : Solved d (sizes d o.population) = record { form = form; above = l.above; below = l.solution.under; satisfied = l.solution.limits } in
    omega (
      arith,
      (type-form solved h).some,
      type-least solved h,
      type-sum solved h (r.dependent, inl r.root),
      none-played d (suc a) r.roleless (size (sizes d o.population)),
    )

-- the first round lowers its upper bound to 0
at_once : {d : Diagram} {a : ℕ} {t : ObjectType} → WellFormed d → At t d.types a → RolelessRoot d (suc a) t → {place round : ℕ}
    → EmptiedAt d place round → round ≤ 1
unfolding limits limits_of_type only_if upper_after value_of lower
at_once {d} {a} {t} form h r {round = round} e = go (dec_le round 1)
  where
    sum-limit : Limit
    sum-limit = record { target = a; most = sum (roles_of_type d (suc a)) }

    among : sum-limit ∈ limits d
    among =
        let must : must_play d (suc a) t ≡ true = (must_play_decides d (suc a) t).1 (r.dependent, inl r.root) in
        let own : sum-limit ∈ limits_of_type d a t = Memᴰ.append_right (only_if (not (is_root t)) (at_most a (index t.super))) (rw must (here refl)) in
        type-limit_in d h own

    go : Dec (round ≤ 1) → round ≤ 1
    go (yes k) = k
    go (no k) =
        let above = (e.meaning.before 1 (omega arith)).entry a in
        omega (
          arith,
          lower-type d h,
          (each-from-at (TypeForm d.types) 1 form.types h).some,
          round-target (limits d) (upper d) sum-limit among,
          none-played d (suc a) r.roleless (size (upper d)),
        )

refuses : {d : Diagram} {a : ℕ} {t : ObjectType} {call : ℕ → Outcome Sized} → WellFormed d → At t d.types a → RolelessRoot d (suc a) t
    → RefusesEmptied d call → RefusesAtOnce call
refuses form h r q space =
    let (place, round, e) = (q.exactly_when space).1 (no_population form h r) in
    (place, round, at_once form h r (q.set_and_round space place round e), e)

-- ---- the statement

table-subtypes : (table : List ℕ) (d : Diagram) → diagram_in table_line table ≡ accepted d → TableSubtypes table d
table-subtypes table d e =
    let g : TableGuarantee table d = guarantee.of_table table d e in
    let w : WellFormed d = ((table-accepted-iff table d).0 e).1 in
    record {
      settles = λ h f p. settles w h f p;
      validated = validated table d e;
      roots = λ h r. (refuses w h r g.check_refuses, refuses w h r g.populate_refuses);
      refusal = (g.check_refuses, g.populate_refuses);
    }

p8-kept : program (text (sample_with ("types=3" ∷ "type=1,3,1,9,0,0" ∷ "type=1,2,1,2,0,0" ∷ "type=1,5,1,5,0,0" ∷ []))) ≡ text ("refused=7,3,1" ∷ [])
unfolding everything text sample_with
p8-kept = refl

other_K10 : (d : Diagram) (o : Population) (number : ℕ) (t : ObjectType) (vs : List ℕ) → ¬ FreeSubtype d number t
    → K10 d o number t vs ≡ K10In01 d o number t vs
unfolding K10
other_K10 d o number t vs n = rw (must-other d number t n, K10) (go (is_independent t) (within eqb vs (values_in_roles number (all_played d o))))
  where
    go : (i b : Bool) → ◌≡◌ {A = Bool} (elim (not i) [ true ↦ b | false ↦ true ]) (elim i [ true ↦ true | false ↦ b ])
    go true b = refl
    go false b = refl

pub subtypes : Subtypes
unfolding limits_of_type
subtypes = record {
  of_table = table-subtypes;
  free_limit = free_limit;
  free_K10 = free_K10;
  other_limits = λ d a t n. rw (must-other d (suc a) t n);
  other_K10 = other_K10;
  p8 = p8-kept;
}
