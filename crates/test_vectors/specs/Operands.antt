-- The operands of a step, from its bytes; none where one is not what it may be.
--   call_operands   a call: five numbers, and the loading state, 0 or 1
--   load_operands   a load choice, through the index or not: two numbers, and the loading state
--   after_operands  a carried index: the emptied blocks, and the candidate's start, revision and size
--   put_operands    a number of the index: its place, 0 to 127, and the number
--   read_operands   a read through the index: a block
--   fill_edit       equal bytes: a buffer, an offset, a count and the byte
--   put_edit        bytes that follow: a buffer, an offset, and a count of two bytes, behind which the operands end
--   dwords          the first n numbers of a list of bytes
use Rattle.std.specs.Prelude.{ℕ, zero, suc, ◌*◌, cond, List, [], ◌∷◌, ◌++◌, ◌==◌, nat_lt, slice_index, Option, Some, None}
use Rattle.bytes_dwords.specs.Dword.{dword}
use Rattle.test_vectors.specs.declared.calls.CallOperands.{CallOperands}
use Rattle.test_vectors.specs.declared.calls.LoadOperands.{LoadOperands}
use Rattle.test_vectors.specs.declared.indexes.AfterOperands.{AfterOperands}
use Rattle.test_vectors.specs.declared.indexes.PutOperands.{PutOperands}
use Rattle.test_vectors.specs.declared.indexed.ReadOperands.{ReadOperands}
use Rattle.test_vectors.specs.declared.edits.Edit.{Edit}

unfoldable pub call_operands : List ℕ → Option CallOperands
call_operands b =
    cond (nat_lt (slice_index b 20) 2)
    (Some record {
      function = dword b 0;
      sub_function = dword b 4;
      task = dword b 8;
      block = dword b 12;
      read_back = dword b 16;
      loading = (slice_index b 20 == 1);
    })
    None

unfoldable pub load_operands : List ℕ → Option LoadOperands
load_operands b =
    cond (nat_lt (slice_index b 8) 2) (Some record { signature = dword b 0; platform = dword b 4; loading = (slice_index b 8 == 1) }) None

unfoldable pub after_operands : List ℕ → AfterOperands
after_operands b = record { emptied = dword b 0; start = dword b 4; revision = dword b 8; size = dword b 12 }

unfoldable pub put_operands : List ℕ → Option PutOperands
put_operands b = cond (nat_lt (slice_index b 0) 128) (Some record { place = slice_index b 0; number = dword b 1 }) None

unfoldable pub read_operands : List ℕ → ReadOperands
read_operands b = record { block = dword b 0 }

unfoldable pub fill_edit : List ℕ → Edit
fill_edit b = record { buffer = slice_index b 0; offset = dword b 1; count = dword b 5; byte = Some (slice_index b 9) }

unfoldable pub put_edit : List ℕ → Edit
put_edit b = record { buffer = slice_index b 0; offset = dword b 1; count = dword b 5; byte = None }

unfoldable pub dwords : List ℕ → ℕ → List ℕ
dwords b zero = []
dwords b (suc n) = dwords b n ++ (dword b (4 * n) ∷ [])
