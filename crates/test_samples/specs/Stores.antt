-- Stores made in a buffer.
--   four_blocks    four blocks of FFh, with P in block 1
--   eight_blocks   eight, with P in block 1 and an update of two blocks, 3,072 bytes, in blocks 3 and 4
use Rattle.std.specs.Prelude.{ℕ, List, replicate}
use Rattle.test_samples.specs.SampleBytes.{put, fill}
use Rattle.test_samples.specs.Make.{p, plain}

unfoldable pub four_blocks : List ℕ → List ℕ
four_blocks s = put (fill s 0 8192 255) 2048 (p (replicate 2048 0) 7 0xF8E7E009) 2048

unfoldable pub eight_blocks : List ℕ → List ℕ
eight_blocks s = put (four_blocks (fill s 0 16384 255)) 6144 (plain (replicate 3072 0) 7 0x683 0x81 3024 3072) 3072
