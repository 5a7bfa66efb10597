-- The reading of a diagram: it reads just the well-formed diagrams, each from its lines.
use Rattle.std.specs.Prelude.{ℕ, suc, refl, ◌↔◌}
use Rattle.std.proofs.Math.Path.{◌≡◌, ap}
use Rattle.std.proofs.Common.{sym, ◌∙◌, one-add, arith, lit≤}
use mathlib.Core.List.{List, [], ◌∷◌, append_assoc, append-nil}
use Rattle.std.proofs.Math.ListN.{length}
use Rattle.orm.specs.Diagram.{ObjectType, Predicate, Diagram, LineKind, diagram_line, types_line, preds_line, all_roles, all_groups, lines}
use Rattle.orm.specs.Reader.{read, ◌>>=◌, pure, at_end, Cut}
use Rattle.orm.proofs.Laws.Readers.{bind_read, bind_cases}
use Rattle.orm.specs.Form.{ranges, diagram_lines, whole_diagram, reading}
use Rattle.orm.specs.Meaning.{Between}
use Rattle.orm.specs.WellFormed.{WellFormed}
use Rattle.reading.specs.Exact.{written, Exact, exact_as, pure-exact, bind_exact}
use Rattle.reading.specs.Lines.{Cuts}
use Rattle.reading.specs.Kinds.{count-exact, end-exact}
use Rattle.reading.specs.Types.{NextTypes, next-types-length, all-types-iff, types-exact}
use Rattle.reading.specs.Predicates.{NextPreds, PredsForm, next-preds-iff, predicates-exact}

-- What was read: a well-formed diagram, from its whole form and nothing after it, up to the line number behind it
pub record Accepted (whole : Diagram → List ℕ) (s : List ℕ) (d : Diagram) (n : ℕ) (rest : List ℕ) : Type 0 where
  pub well_formed : WellFormed d
  pub from : s ≡ whole d
  pub place : n ≡ suc (length (lines d))
  pub nothing_left : rest ≡ []

-- ---- what each step of the reading adds

abbrev EndStep : ℕ → List ObjectType → List Predicate → Diagram → Type 0
EndStep kind ts ps d =
    (length (all_roles d) ≡ length (all_roles (record { kind = kind; types = ts; preds = ps }))) × (d ≡ record { kind = kind; types = ts; preds = ps })

abbrev PredsStep : ℕ → ℕ → List ObjectType → ℕ → Diagram → Type 0
PredsStep kind t ts p d = NextPreds kind t 0 0 p d.preds × EndStep kind ts d.preds d

abbrev PredCountStep : ℕ → ℕ → List ObjectType → Diagram → Type 0
PredCountStep kind t ts d = Between 1 (length d.preds) 32 × PredsStep kind t ts (length d.preds) d

abbrev TypesStep : ℕ → ℕ → Diagram → Type 0
TypesStep kind t d = NextTypes [] t d.types × PredCountStep kind t d.types d

abbrev TypeCountStep : ℕ → Diagram → Type 0
TypeCountStep kind d = Between 1 (length d.types) 32 × TypesStep kind (length d.types) d

all-preds-iff : (kind t p : ℕ) (ps : List Predicate) → NextPreds kind t 0 0 p ps ↔ PredsForm kind t 0 0 p ps
all-preds-iff kind t p ps = next-preds-iff kind t 0 0 p ps (lit≤ tt) (lit≤ tt)

known-end : (kind : ℕ) (ts : List ObjectType) (ps : List Predicate) (n : ℕ) (d : Diagram)
    → n ≡ length (all_roles (record { kind = kind; types = ts; preds = ps })) → d ≡ record { kind = kind; types = ts; preds = ps }
    → length (all_roles d) ≡ n
known-end kind ts ps n d e q = ap (λ (x : Diagram). length (all_roles x)) q ∙ sym e

diagram-forms : (d : Diagram) → (Between 1 d.kind 2 × TypeCountStep d.kind d) ↔ WellFormed d
unfolding all_roles all_groups
diagram-forms d = (
  λ (kinds, (type_count, (types, (pred_count, (preds, _))))).
      let ps = (all-preds-iff d.kind (length d.types) (length d.preds) d.preds).0 preds in
      record {
        kinds = kinds;
        type_count = type_count;
        pred_count = pred_count;
        role_count = omega (arith, ps.role_total);
        group_count = omega (arith, ps.group_total);
        types = (all-types-iff d.types).0 types;
        preds = ps.each;
        limits = ps.limits;
      },
  λ w.
      let ps : PredsForm d.kind (length d.types) 0 0 (length d.preds) d.preds =
      record {
        counted = refl;
        each = w.preds;
        limits = w.limits;
        role_total = omega (arith, w.role_count);
        group_total = omega (arith, w.group_count);
      } in
      let types = (all-types-iff d.types).1 w.types in
      let preds = (all-preds-iff d.kind (length d.types) (length d.preds) d.preds).1 ps in
      (w.kinds, (w.type_count, (types, (w.pred_count, (preds, (refl, refl)))))),
)

module _ (form : LineKind → List ℕ → List ℕ) (next : LineKind → List ℕ → Cut) (cuts : Cuts form next) where
  pub diagram-exact : Exact form (diagram_lines next) WellFormed lines
  unfolding diagram_lines all_roles lines
  diagram-exact = exact_as form diagram-forms (λ d w. rw append_assoc)
      (bind_exact form _ _ (λ d. d.kind) (λ kind d w e. ap (λ (x : Diagram). x.kind) e.1.1.1.1.1)
      (count-exact form next cuts diagram_line 1 2 (unfold ranges in refl) (lit≤ tt))
      (λ kind some-kind. bind_exact form _ _ (λ d. length d.types) (λ t d w e. next-types-length [] t d.types e.0)
      (count-exact form next cuts types_line 1 32 (unfold ranges in refl) (lit≤ tt))
      (λ t some-types. bind_exact form _ _ (λ d. d.types) (λ ts d w e. ap (λ (x : Diagram). x.types) e.1.1.1)
      (types-exact form next cuts [] t (omega (arith, some-types.1)))
      (λ ts w. bind_exact form _ _ (λ d. length d.preds) (λ p d w e. ((all-preds-iff kind t p d.preds).0 e.0).counted)
      (count-exact form next cuts preds_line 1 32 (unfold ranges in refl) (lit≤ tt))
      (λ p w. bind_exact form _ _ (λ d. d.preds) (λ ps d w e. ap (λ (x : Diagram). x.preds) e.1)
      (predicates-exact form next cuts kind t 0 0 p some-kind some-types.1)
      (λ ps w. bind_exact form _ _ (λ d. length (all_roles d)) (known-end kind ts ps)
      (end-exact form next cuts _ (omega (arith, ((all-preds-iff kind t p ps).0 w).role_total)))
      (λ n w. pure-exact form (record { kind = kind; types = ts; preds = ps }))))))))

  abbrev whole : Diagram → List ℕ
  whole d = written form (lines d)

  accepted : (s : List ℕ) (d : Diagram) (n : ℕ) (rest : List ℕ) → reading next s ≡ read d n rest → Accepted whole s d n rest
  unfolding reading whole_diagram at_end
  accepted s d n rest e = bind_cases (diagram_lines next) _ 1 s e λ d₁ i t p q. go d₁ i t p q
    where
      go : (d₁ : Diagram) (i : ℕ) (t : List ℕ) → diagram_lines next 1 s ≡ read d₁ i t → (at_end 1 >>= λ end. pure d₁) i t ≡ read d n rest
          → Accepted whole s d n rest
      go d₁ i (x ∷ xs) p q = let z : ◌≡◌ {A = ℕ} 0 1 = cc in absurd (omega arith)
      go d₁ i [] p q =
          let r = diagram-exact.only 1 s d₁ i [] p in
          let same-d : d ≡ d₁ = cc in
          let same-n : n ≡ i = cc in
          rw (same-d, same-n)
          (record { well_formed = r.valid; from = r.from ∙ append-nil _; place = omega (arith, r.place); nothing_left = cc })

  accepts : (d : Diagram) → WellFormed d → reading next (whole d) ≡ read d (suc (length (lines d))) []
  unfolding reading whole_diagram at_end
  accepts d w = bind_read (diagram_lines next) (λ d₁. at_end 1 >>= λ end. pure d₁) 1 (whole d) d (suc (length (lines d))) []
      (rw (append-nil, one-add) at (diagram-exact.every d w 1 []))

  pub read-iff-accepted : (s : List ℕ) (d : Diagram) (n : ℕ) (rest : List ℕ) → (reading next s ≡ read d n rest) ↔ Accepted whole s d n rest
  read-iff-accepted s d n rest = (accepted s d n rest, λ a. rw (a.from, a.place, a.nothing_left) (accepts d a.well_formed))
