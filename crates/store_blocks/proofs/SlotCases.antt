-- The cases of what stands at a block, as the code takes them.
--   fitting      the cases of `fits`, as `search` takes them
--   good_dwords  a good update is whole dwords
--   slotting     the cases of `slot_of`, as `search` takes them
use Rattle.std.specs.Prelude.{ℕ, ◌*◌, ◌-◌, ◌%◌, ◌<◌, ◌≤◌, ◌≡◌, Bool, false, List, length, Ok, Err}
use Rattle.std.proofs.Common.{sym, ◌∙◌, arith}
use borrow.Author.Tests.{le-leb, lt-leb}
use Rattle.laws.specs.Unless.{unless, unless_pass, unless_stop}
use Rattle.update_sizes.specs.Sizes.{blocks_of}
use Rattle.update_header.specs.Inside.{inside}
use Rattle.update_verdict.specs.Verdict.{Verdict, BadHeader, BadSum, verdict}
use Rattle.update_verdict.specs.VerdictLaws.{judged, verdict_blocks}
use Rattle.update_verdict.specs.declared.Measures.{Measures}
use Rattle.update_verdict.specs.declared.BadUpdate.{BadUpdate}
use Rattle.update_verdict.specs.declared.BadUpdate.TheVariants.{Header, Sum}
use Rattle.store_blocks.specs.Blocks.{filled}
use Rattle.store_blocks.specs.Slot.{fits, update_slot}
use Rattle.store_blocks.specs.declared.slot.Slot.{Slot}
use Rattle.store_blocks.specs.declared.slot.Slot.TheVariants.{Update, Bad}

-- k is the local that holds the number of blocks
module _ (s : List ℕ) (t k : ℕ) (e : k ≡ blocks_of t) where
  pub fits_yes : (r : Bool) → k * 2048 ≤ length s → r ≡ filled s t (k * 2048 - t) → r ≡ fits s t
  unfolding fits
  fits_yes r l h = rw (← e, le-leb (k * 2048) (length s) l) h

  pub fits_no : length s < k * 2048 → false ≡ fits s t
  unfolding fits
  fits_no l = rw (← e, lt-leb (k * 2048) (length s) l)

pub ruleset fitting = (fits_yes, fits_no)

-- r is what a call answered, of which it ensures that it is v
module _ (s : List ℕ) (r v : Verdict) (e : r ≡ v) where
  pub slot_good : (m : Measures) (z : Slot) → r ≡ Ok m → z ≡ unless (fits s m.total) Bad (Update m.blocks) → z ≡ update_slot s v
  unfolding update_slot
  slot_good m z h g = rw (← e, h) g

  pub slot_bad : (x : BadUpdate) → r ≡ Err x → Bad ≡ update_slot s v
  unfolding update_slot
  slot_bad x h = rw (← e, h)

  pub slot_header : r ≡ BadHeader → Bad ≡ update_slot s v
  slot_header h = slot_bad Header h

  pub slot_sum : r ≡ BadSum → Bad ≡ update_slot s v
  slot_sum h = slot_bad Sum h

-- a good update is whole dwords; v is what a call answered
pub good_dwords : (s : List ℕ) (v : Verdict) (m : Measures) → v ≡ verdict s → v ≡ Ok m → m.total % 4 ≡ 0
good_dwords s v m e h =
    let g = judged s m.total m.data m.entries m.blocks (sym e ∙ h) in
    let z = (inside s g.sizes).sized in
    omega (arith, g.total, z.dwords, z.layout)

pub ruleset slotting = (unless_pass, unless_stop, slot_good, slot_bad, good_dwords, verdict_blocks)
