-- `test_vectors::digest::digest` meets its contract, by the laws of the digest.
use Rattle.std.proofs.Common.{refl, rules}
use Rattle.test_vectors.specs.DigestLaws.{digest_none, digest_next, digest_fours, digest_rest, digest_all}
use Rattle.test_vectors.proofs.digest.digest.Goals as goal

pub loop-k-init : goal.loop-k-init
loop-k-init c = (search rules, search (rules, digest_none))

pub loop-k-preserved : goal.loop-k-preserved
loop-k-preserved c = (search rules, digest_fours _ _ _ _ c.four-h.ensures.0 c.loop-k.invariant.1)

pub loop-i-init : goal.loop-i-init
loop-i-init c = (search rules, search (rules, digest_rest))

pub loop-i-preserved : goal.loop-i-preserved
loop-i-preserved c = (search rules, digest_next _ _ _ _ _ c.step-h.ensures.0 c.loop-i.invariant.1 refl)

pub returns : goal.returns
returns c = search (rules, digest_all)
