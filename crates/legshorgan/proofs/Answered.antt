-- What is printed of the part of an input that is read is what is printed of the whole.
use Rattle.std.proofs.Common.{◌≡◌, ℕ, ◌≤◌, ◌<◌, List, [], ◌++◌, length, take, None, Some, Result, Ok, Err, IfSome, OnOk, arith, sym, ap, ◌∙◌, subst, append-nil}
use Rattle.std.specs.declared.option.Option.{Option}
use Rattle.std.specs.Io.KnownBytes.{Appends, Consumes, IsAtEnd}
use Rattle.std.proofs.Math.Decide.{dec_lt}
use Rattle.std.proofs.lemmas.List.{take_at}
use Rattle.orm.specs.Program.{program}
use Rattle.command.specs.Reports.{text_report}
use Rattle.command.specs.Laws.Reports.{program-cut, program-whole}

-- The front of an input, of 8,192 bytes or with nothing behind it
front-is : (xs front rest : List ℕ) → xs ≡ front ++ rest → length front ≤ 8192 → (length front < 8192 → rest ≡ []) → program front ≡ program xs
front-is xs front rest e most end = go (dec_lt (length front) 8192)
  where
    go : Dec (length front < 8192) → program front ≡ program xs
    go (yes l) = ap program (sym (append-nil front) ∙ ap (λ (r : List ℕ). front ++ r) (sym (end l)) ∙ sym e)
    go (no l) =
        let long : length front ≡ 8192 = omega (arith, l) in
        program-whole front most ∙ ap text_report (sym (take_at front rest 8192 long) ∙ ap (take 8192) (sym e)) ∙ sym (program-cut xs)

-- `front` is what was read into a buffer of 8,192 bytes, and `shown` what is printed of it
pub read-front : (known left : Option (List ℕ)) (space front shown : List ℕ) (n : ℕ) → Consumes known left (take n space)
    → (n < length space → IsAtEnd left) → length space ≡ 8192 → n ≤ length space → n ≡ length (take n space) → front ≡ take n space → shown ≡ program front
    → IfSome known (λ xs. shown ≡ program xs)
read-front None left space front shown n c end long within en ef es = tt
read-front (Some xs) None space front shown n c end long within en ef es = absurd c
read-front (Some xs) (Some rest) space front shown n c end long within en ef es =
    es ∙ ap program ef ∙ front-is xs (take n space) rest c (omega arith) (λ l. end (omega arith))

pub answered : {T E : Type 0} (r : Result T E) (known a b : Option (List ℕ)) (shown : List ℕ) → IfSome known (λ xs. shown ≡ program xs)
    → OnOk r (Appends a b shown) → OnOk r (IfSome known (λ xs. Appends a b (program xs)))
answered (Err e) known a b shown h w = tt
answered (Ok x) None a b shown h w = tt
answered (Ok x) (Some xs) a b shown h w = subst (Appends a b) h w

-- What is written is `whole`, where what is shown is
pub written : {T E : Type 0} (r : Result T E) (a b : Option (List ℕ)) (shown whole : List ℕ) → shown ≡ whole → OnOk r (Appends a b shown)
    → OnOk r (Appends a b whole)
written r a b shown whole e w = subst (λ (xs : List ℕ). OnOk r (Appends a b xs)) e w
