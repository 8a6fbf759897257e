-- `h` is the digest of the numbers passed.
use Rattle.std.proofs.Common.{◌≡◌, ◌<◌}
use Rattle.store_index.specs.IndexColumns.{word_at}
use Rattle.test_vectors.specs.Digest.{modulus, digest_to}
use Rattle.test_vectors.proofs.digest.numbers.Given as goal

abbrev pub invariant-loop-i : goal.invariant-loop-i
invariant-loop-i l = (l.h < modulus) × (l.h ≡ digest_to (word_at l.x) l.i)
