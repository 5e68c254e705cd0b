use Rattle.std.proofs.Common.{[], ◌∷◌, ◌∙◌}
use lib.Utf8.{encode}
use Rattle.std.proofs.lemmas.List.{replicate_more}
use Rattle.std.proofs.lemmas.Slice.{pushed}
use Rattle.texts.proofs.columns.right_aligned.Goals as goal

-- one more space at the end
pub loop-preserved : goal.loop-preserved
unfolding encode
loop-preserved c = pushed (32 ∷ []) c.loop.invariant c.in_ok-push.was c.push.ensures.bytes ∙ replicate_more c.loop.counter 32
