-- Which of the updates stored before still stand afterwards: exactly those that a legal outcome keeps.
--   same_covers, same_revision    an update with the candidate's bytes covers its processors and has its revision
--   kept_stands     a kept update still stands
--   emptied_gone    an emptied one doesn't, not even where the candidate begins at its first block
--   gone_count      as many are gone as the outcome empties
--   gone_blocks     the emptied blocks are those of the updates that are gone
use Rattle.std.specs.Prelude.{ℕ, ◌*◌, ◌<◌, ◌≤◌, ◌≡◌, Bool, ◌&&◌, List, ◌↔◌, get_or}
use Rattle.std.proofs.Math.Path.{refl, sym}
use Rattle.std.proofs.Common.{ap, ◌∙◌, arith}
use Rattle.std.proofs.Math.Bool.{true, false, not, true≢false}
use Rattle.std.proofs.Math.ListN.{length, length-drop}
use Rattle.std.proofs.Math.Seq.{get_or-drop}
use Rattle.std.proofs.Math.Dec.{eqb}
use borrow.Author.Tests.{eqb-true, eq-eqb, le-leb}
use Rattle.laws.specs.Bools.{and_parts, and_made, no_true, no_false}
use Rattle.laws.specs.Below.{all_below, all_at, all_true, any_at, any_stop}
use Rattle.laws.specs.Bits.{bit}
use Rattle.laws.specs.Count.{count_below, count_cong}
use Rattle.laws.specs.Same.{Same, same_less}
use Rattle.update_header.specs.Fields.{revision}
use Rattle.update_sizes.specs.Sizes.{blocks_of}
use Rattle.update_verdict.specs.Verdict.{Good, verdict}
use Rattle.update_sharing.specs.Shares.{Shares}
use Rattle.update_coverage.proofs.CoverLaws.{covers_platform}
use Rattle.update_sharing.proofs.ShareLaws.{shares_law}
use Rattle.update_verdict.specs.VerdictLocal.{revision_local}
use Rattle.update_sharing.specs.SharingLocal.{Alike, covers_local}
use Rattle.store_blocks.specs.Blocks.{from_block, block_count}
use Rattle.store_blocks.specs.Slot.{slot_of}
use Rattle.store_directory.specs.Scan.{slot_at, size_at, first, store_ok, directory}
use Rattle.store_directory.specs.SlotLaws.{Slotted, slotted, slot_inside, update_alike, ends_inside}
use Rattle.store_directory.specs.LayoutLaws.{first_parts}
use Rattle.store_directory.specs.Valid.{Owned}
use Rattle.store_directory.proofs.ValidLaws.{store_valid}
use Rattle.store_directory.proofs.DirectoryLaws.{listing}
use Rattle.store_blocks.specs.declared.slot.Slot.TheVariants.{Update}
use Rattle.processor_list.specs.Processors.{ProcessorList, covers_listed, covers_one}
use Rattle.write_outcome.specs.Legal.{Legal, stored_in, emptied_count}
use Rattle.write_outcome.specs.OutcomeBytes.{outcome_bytes}
use Rattle.write_outcome.specs.EmptiedBlocks.{emptied_blocks}
use Rattle.write_outcome.specs.After.{kept, after, After}
use Rattle.write_outcome.proofs.AfterLaws.{outcome_after}
use Rattle.write_outcome.proofs.KeptLaws.{kept_made}
use Rattle.write_plan.specs.CandidateMarks.{shares_entry, outdates, outdated}
use Rattle.write_call.proofs.AnsweredBlocks.{owned_inside, blocks_bit}
use Rattle.write_call.specs.Demand.{same_byte, stands_at, gone_at}

-- bytes v that agree with an update u of j blocks, and with the candidate
module _ (u v cand : List ℕ) (j t d n k : ℕ) (slot : slot_of u ≡ Update j) (same : Same u v (j * 2048)) (long : j * 2048 ≤ length v)
    (good : verdict cand ≡ Good t d n k) (bytes : Same cand v t) (lent : t ≤ length v) where
  same_covers : Alike u cand
  same_covers x p = update_alike u v j slot same long x p ∙ sym (covers_local cand v t d n k good bytes lent x p)

  same_revision : revision u ≡ revision cand
  unfolding blocks_of
  same_revision =
      let f : Slotted u j = slotted u j slot in
      let short : f.total ≤ j * 2048 = omega (arith, f.blocks) in
      revision_local u v f.total f.data f.entries j f.good (same_less u v (j * 2048) f.total same short) (omega arith)
      ∙ sym (revision_local cand v t d n k good bytes lent)

-- an update that covers what the candidate does, with its revision, isn't older
not_newer : (old : List ℕ) (list : ProcessorList) (cand : List ℕ) (b : ℕ) → store_ok old ≡ true → b < block_count old → first old b ≡ true → covers_one list cand ≡ true
    → Alike (from_block old b) cand → revision (from_block old b) ≡ revision cand → outdated old cand ≡ true
unfolding covers_one covers_listed outdated outdates shares_entry
not_newer old list cand b ok l f present alike rev =
    let w = any_at (covers_listed list cand) (length list.signatures) present in
    let x = get_or list.signatures w.0 0 in
    let p = get_or list.platforms w.0 0 in
    let both : Shares (from_block old b) cand = record { signature = x; platform = p; processor = covers_platform cand x p w.2; left = alike x p ∙ w.2; right = w.2 } in
    let i = (listing old ok (directory old) refl).every b l f in
    any_stop (outdates old cand) (directory old).count i.0 i.1
    (rw i.2 (and_made ((shares_law (from_block old b) cand).1 both) (le-leb (revision cand) (revision (from_block old b)) (omega (arith, rev)))))

module _ (old : List ℕ) (list : ProcessorList) (cand : List ℕ) (t d n k start : ℕ) (e : ℕ → Bool) (ok : store_ok old ≡ true)
    (good : verdict cand ≡ Good t d n k) (legal : Legal old list cand t start e) where
  abbrev new : List ℕ
  new = outcome_bytes old t cand start e

  left : After old new cand t d n k start e
  left = outcome_after old list cand t d n k start e ok good legal

  -- the bytes of the update at block b, in the whole store and by themselves
  stands_same : (b j : ℕ) → slot_at old b ≡ Update j → all_below (size_at old b * 2048) (same_byte old new b) ≡ true → Same (from_block old b) (from_block new b) (j * 2048)
  unfolding same_byte
  stands_same b j slot h i l =
      get_or-drop (b * 2048) old i 0
      ∙ eqb-true _ _ (all_at (same_byte old new b) (size_at old b * 2048) i h (rw slot l))
      ∙ sym (get_or-drop (b * 2048) new i 0)

  same_stands : (b j : ℕ) → slot_at old b ≡ Update j → Same (from_block old b) (from_block new b) (j * 2048) → all_below (size_at old b * 2048) (same_byte old new b) ≡ true
  unfolding same_byte
  same_stands b j slot h =
      all_true (same_byte old new b) (size_at old b * 2048) (λ i l.
      eq-eqb _ _ (sym (get_or-drop (b * 2048) old i 0) ∙ h i (rw slot at l) ∙ get_or-drop (b * 2048) new i 0))

  -- an old update at the start doesn't have the bytes that stand there now, which are the candidate's
  start_gone : covers_one list cand ≡ true → outdated old cand ≡ false → start < block_count old → first old start ≡ true
      → all_below (size_at old start * 2048) (same_byte old new start) ≡ true → ⊥
  unfolding slot_at blocks_of
  start_gone present newer l f h =
      let u = from_block old start in
      let v = from_block new start in
      let j = (first_parts old start f).1 in
      let whole = (store_valid old ok).long in
      let same = stands_same start j.0 j.1 h in
      let long : j.0 * 2048 ≤ length v = omega (arith, length-drop (start * 2048) new, left.long, ends_inside old (block_count old) start j.0 whole j.1) in
      let lent : t ≤ length v = omega (arith, (slot_inside v (blocks_of t) left.placed).2) in
      let alike = same_covers u v cand j.0 t d n k j.1 same long good left.bytes lent in
      let rev = same_revision u v cand j.0 t d n k j.1 same long good left.bytes lent in
      true≢false (sym (not_newer old list cand start ok l f present alike rev) ∙ newer)

  module _ (b : ℕ) (l : b < block_count old) (f : first old b ≡ true) where
    pub kept_stands : e b ≡ false → stands_at old new b ≡ true
    unfolding stands_at after
    kept_stands h =
        let j = (first_parts old b f).1 in
        let q = kept_made old e b f h in
        and_made (left.firsts b l ∙ rw q) (same_stands b j.0 j.1 (left.stays b j.0 l q j.1).1)

    pub emptied_gone : covers_one list cand ≡ true → outdated old cand ≡ false → e b ≡ true → stands_at old new b ≡ false
    unfolding stands_at after kept
    emptied_gone present newer h =
        no_true (stands_at old new b) (λ w.
        let x = and_parts (first new b) (all_below (size_at old b * 2048) (same_byte old new b)) w in
        let y : eqb b start ≡ true = rw (f, h) at (sym (left.firsts b l) ∙ x.0) in
        let q : b ≡ start = eqb-true b start y in
        start_gone present newer (rw q at l) (rw q at f) (ap (λ (c : ℕ). all_below (size_at old c * 2048) (same_byte old new c)) (sym q) ∙ x.1))

  pub gone_count : covers_one list cand ≡ true → outdated old cand ≡ false → emptied_count old e ≡ count_below (block_count old) (gone_at old new)
  unfolding emptied_count stored_in gone_at
  gone_count present newer = count_cong (stored_in old e) (gone_at old new) (block_count old) (λ b l. go b l (first old b) refl (e b) refl)
    where
      go : (b : ℕ) → b < block_count old → (x : Bool) → first old b ≡ x → (y : Bool) → e b ≡ y → x && y ≡ x && not (stands_at old new b)
      go b l true f true h = rw (emptied_gone b l f present newer h)
      go b l true f false h = rw (kept_stands b l f h)
      go b l false f y h = refl

  pub gone_blocks : covers_one list cand ≡ true → outdated old cand ≡ false → (c : ℕ)
      → (bit (emptied_blocks old e) c ≡ true) ↔ ((b : ℕ) × Owned old (first old) b c × (gone_at old new b ≡ true))
  unfolding gone_at
  gone_blocks present newer c = (
    λ h.
        let w = (blocks_bit old ok e c).0 h in
        let o = w.2 in
        let l = owned_inside old ok w.0 c o in
        (w.0, o, and_made o.at (rw (emptied_gone w.0 (omega (arith, o.from)) o.at present newer w.1))),
    λ w.
        let o = w.1 in
        let l = owned_inside old ok w.0 c o in
        let x = and_parts (first old w.0) (not (stands_at old new w.0)) w.2 in
        let y = no_false (e w.0) (λ k. true≢false (sym x.1 ∙ rw (kept_stands w.0 (omega (arith, o.from)) o.at k))) in
        (blocks_bit old ok e c).1 (w.0, y, o),
  )
