-- `h` is the digest of the bytes passed, in both loops.
use Rattle.std.proofs.Common.{◌≡◌, ◌*◌, ◌<◌}
use Rattle.test_vectors.specs.Digest.{modulus, digest_to, byte_at}
use Rattle.test_vectors.proofs.digest.digest.Given as goal

abbrev pub invariant-loop-k : goal.invariant-loop-k
invariant-loop-k l = (l.h < modulus) × (l.h ≡ digest_to (byte_at l.s) (4 * l.k))

abbrev pub invariant-loop-i : goal.invariant-loop-i
invariant-loop-i l = (l.h < modulus) × (l.h ≡ digest_to (byte_at l.s) l.i)
