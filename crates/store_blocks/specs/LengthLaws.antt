-- What a right length of a store says.
--   length_few      at most 32 blocks
--   length_parts    N whole blocks, N from 1 to 32
use Rattle.std.specs.Prelude.{ℕ, ◌*◌, ◌/◌, ◌%◌, ◌≤◌, ◌≡◌, true, ◌&&◌, List, length, leb, eqb}
use Rattle.std.proofs.Common.{arith, eqb-true, leb-true}
use Rattle.laws.specs.Bools.{and_parts}
use Rattle.store_blocks.specs.Blocks.{block_count, length_ok}

pub length_few : (n : ℕ) → length_ok n ≡ true → n / 2048 ≤ 32
unfolding length_ok
length_few n h = leb-true (n / 2048) 32 (and_parts (eqb (n % 2048) 0 && leb 1 (n / 2048)) (leb (n / 2048) 32) h).1

pub length_parts : (s : List ℕ) → length_ok (length s) ≡ true
    → (length s ≡ block_count s * 2048) × (1 ≤ block_count s) × (block_count s ≤ 32)
unfolding length_ok block_count
length_parts s h =
    let x = and_parts (eqb (length s % 2048) 0 && leb 1 (length s / 2048)) (leb (length s / 2048) 32) h in
    let y = and_parts (eqb (length s % 2048) 0) (leb 1 (length s / 2048)) x.0 in
    let z = eqb-true (length s % 2048) 0 y.0 in
    (omega arith, leb-true _ _ y.1, leb-true _ _ x.1)
