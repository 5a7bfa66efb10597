-- What is written of the part of an input that is read is its whole report.
use Rattle.std.proofs.Common.{◌≡◌, ℕ, ◌≤◌, ◌<◌, List, [], ◌++◌, length, take, None, Some, Result, Ok, Err, IfSome, OnOk, arith, sym, ap, ◌∙◌, subst, append-nil, take_all}
use Rattle.std.specs.declared.option.Option.{Option}
use Rattle.std.specs.Io.KnownBytes.{Appends, Consumes, IsAtEnd}
use Rattle.std.proofs.Math.Decide.{dec_lt}
use Rattle.std.proofs.lemmas.List.{take_at}
use Rattle.buffer.specs.Written.{WroteAll}
use Rattle.lines_main.specs.Report.{report}
use Rattle.lines_main.specs.Whole.{report-whole}

-- The front of an input, of 4,096 bytes or with nothing behind it
front-is : (xs front rest : List ℕ) → xs ≡ front ++ rest → length front ≤ 4096 → (length front < 4096 → rest ≡ []) → front ≡ take 4096 xs
front-is xs front rest e most end = go (dec_lt (length front) 4096)
  where
    go : Dec (length front < 4096) → front ≡ take 4096 xs
    go (yes l) =
        let whole : front ≡ xs = sym (append-nil front) ∙ ap (λ (r : List ℕ). front ++ r) (sym (end l)) ∙ sym e in
        sym (take_all 4096 front most) ∙ ap (take 4096) whole
    go (no l) =
        let long : length front ≡ 4096 = omega (arith, l) in
        sym (take_at front rest 4096 long) ∙ ap (take 4096) (sym e)

-- The first `n` bytes of `space` were read into it
pub read-front : (known left : Option (List ℕ)) (space : List ℕ) (n : ℕ) → Consumes known left (take n space) → (n < length space → IsAtEnd left)
    → length space ≡ 4096 → n ≤ length space → n ≡ length (take n space) → IfSome known (λ xs. report (take n space) ≡ report (take 4096 xs))
read-front None left space n c end long within en = tt
read-front (Some xs) None space n c end long within en = absurd c
read-front (Some xs) (Some rest) space n c end long within en = ap report (front-is xs (take n space) rest c (omega arith) (λ l. end (omega arith)))

-- What is written is the whole report on a text, which `out` had room for
pub written : {T E : Type 0} (r : Result T E) (a b : Option (List ℕ)) (text o out : List ℕ) (to : ℕ) → length text ≤ 4096 → 65536 ≤ length o
    → WroteAll o (report text) out to → OnOk r (Appends a b (take to out)) → OnOk r (Appends a b (report text))
written r a b text o out to few room w = subst (λ (xs : List ℕ). OnOk r (Appends a b xs)) (report-whole text o out to few room w)

pub answered : {T E : Type 0} (r : Result T E) (known a b : Option (List ℕ)) (shown : List ℕ) → IfSome known (λ xs. shown ≡ report (take 4096 xs))
    → OnOk r (Appends a b shown) → OnOk r (IfSome known (λ xs. Appends a b (report (take 4096 xs))))
answered (Err e) known a b shown h w = tt
answered (Ok x) None a b shown h w = tt
answered (Ok x) (Some xs) a b shown h w = subst (Appends a b) h w
