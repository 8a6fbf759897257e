-- A chosen update lies in the store.
--   chosen         an update of a valid store begins at a chosen start
--   load_inside    it begins below block 32
--   load_small, load_start    the same of a start, from the choice
--   load_part      its data bytes lie in the store, and are the chosen data
use Rattle.std.specs.Prelude.{ℕ, ◌+◌, ◌*◌, ◌<◌, ◌≤◌, ◌≡◌, refl, Bool, true, false, List, length, take, drop, leb, ltb, Option, Some, Ok, Err}
use Rattle.std.proofs.Common.{sym, ap, ◌∙◌, arith, length-drop, drop-drop, ltb-true}
use Rattle.laws.specs.Orders.{impossible}
use Rattle.laws.specs.Bools.{and_parts}
use Rattle.laws.specs.First.{first_is}
use Rattle.laws.specs.Unless.{unless}
use Rattle.update_header.specs.Fields.{revision, data_size}
use Rattle.update_header.specs.DataPart.{data_part}
use Rattle.store_blocks.specs.Blocks.{from_block, block_count}
use Rattle.update_coverage.specs.Covers.{covers}
use Rattle.update_verdict.specs.VerdictLaws.{judged, good_size}
use Rattle.store_directory.specs.Scan.{slot_at, first, store_ok}
use Rattle.store_directory.specs.SlotLaws.{slotted}
use Rattle.store_directory.proofs.ValidLaws.{store_valid}
use Rattle.load_choice.specs.Load.{holds, holder, chosen_at, found, load_choice, chosen_data}
use Rattle.call_answers.specs.Choice.{LoadChoice, Nothing, Chosen}
use Rattle.call_answers.specs.declared.choice.Chosen.{Chosen as Update}
use Rattle.call_answers.specs.declared.refusal.Refusal.TheVariants.{BadStore, BadProcessors}
use Rattle.load_choice.specs.LoadBounds.{StartBelow32, Choice}

chosen_at_lem : (s : List ℕ) (a b r : ℕ) (t : Bool) → ltb a (block_count s) ≡ t → unless t Nothing (Chosen a (revision (from_block s a))) ≡ Chosen b r → (a ≡ b) × (a < block_count s)
unfolding unless
chosen_at_lem s a b r true e h =
    let q : ◌≡◌ {A = Update} (record { start = a; revision = revision (from_block s a) }) (record { start = b; revision = r }) = cc in
    (ap (λ (c : Update). c.start) q, ltb-true a (block_count s) e)
chosen_at_lem s a b r false e h = absurd (impossible (cc))

pub chosen : (loading : Bool) (s : List ℕ) (x p b r : ℕ) → Chosen b r ≡ load_choice loading s x p → Choice s b
unfolding load_choice found chosen_at unless holder holds
chosen loading s x p b r e = go (store_ok s) refl (leb p 7) loading e
  where
    go : (t : Bool) → store_ok s ≡ t → (u v : Bool) → Chosen b r ≡ unless t (Err BadStore) (unless u (Err BadProcessors) (unless v Nothing (found s x p))) → Choice s b
    go false k u v q = absurd (impossible (cc))
    go true k false v q = absurd (impossible (cc))
    go true k true false q = absurd (impossible (cc))
    go true k true true q =
        let y = chosen_at_lem s (holder s x p) b r (ltb (holder s x p) (block_count s)) refl (sym q) in
        let h = and_parts (first s (holder s x p)) (covers (from_block s (holder s x p)) x p) ((first_is (block_count s) (holds s x p)).passes y.1) in
        rw (← y.0) (record { ok = k; below = y.1; begun = h.0 })

pub load_inside : (c : LoadChoice) (loading : Bool) (s : List ℕ) (x p : ℕ) → c ≡ load_choice loading s x p → StartBelow32 c
unfolding StartBelow32
load_inside c loading s x p e b r h = let y = chosen loading s x p b r (sym h ∙ e) in omega (arith, y.below, (store_valid s y.ok).few)

pub load_small : (c : LoadChoice) (b r : ℕ) → StartBelow32 c → c ≡ Chosen b r → b < 32
unfolding StartBelow32
load_small c b r i h = i b r h

-- of a choice taken apart in two steps
pub load_start : (c : LoadChoice) (o : Option Update) (u : Update) → StartBelow32 c → c ≡ Ok o → o ≡ Some u → u.start < 32
load_start c o u i h k = load_small c u.start u.revision i (h ∙ ap (λ (x : Option Update). Ok x) k)

-- its data bytes lie in the store, and are the chosen data
pub load_part : (loading : Bool) (s : List ℕ) (x p b r : ℕ) → Chosen b r ≡ load_choice loading s x p
    → (b * 2048 + 48 + data_size (from_block s b) ≤ length s) × (take (data_size (from_block s b)) (drop (b * 2048 + 48) s) ≡ chosen_data s (load_choice loading s x p))
unfolding chosen_data data_part slot_at
load_part loading s x p b r e =
    let y = chosen loading s x p b r e in
    let v = store_valid s y.ok in
    let h = v.layout.stored b y.below y.begun in
    let z = slotted (from_block s b) h.0 h.1 in
    let g = good_size (from_block s b) z.total z.data z.entries h.0 z.good in
    let d = (judged (from_block s b) z.total z.data z.entries h.0 z.good).data in
    let l = length-drop (b * 2048) s in
    (omega (arith, v.long, y.below), rw (← e) (ap (take (data_size (from_block s b))) (sym (drop-drop 48 (b * 2048) s))))
