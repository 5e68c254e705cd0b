-- What the texts that are put together of known parts have in common.
use Rattle.std.proofs.Common.{◌≡◌, IfOk, Result, ◌∙◌}
use Rattle.std.proofs.lemmas.Result.{IfOk-weaker}

-- a text that is known by its parts is known by what is equal to them
pub made_same : {X E B : Type 0} {xs ys : B} (f : X → B) (r : Result X E) → xs ≡ ys → IfOk r (λ x. f x ≡ xs) → IfOk r (λ x. f x ≡ ys)
made_same f r same h = IfOk-weaker r _ _ (λ x e. e ∙ same) h
