-- The storing step: from the marks beside the directory to the bytes of the outcome.
--   storing, planned_storable, can_store     so it is after checks 1 to 8
--   entries_for     the arrays list updates of the store
--   entries_fit     none is empty, and all end within 32 blocks
--   emptied_entry   an update that is emptied by its number is emptied by its first block
--   stored_bytes    the bytes that are written are the outcome's
--   run_inside, whole_lent    the run lies in the store; the candidate's bytes are lent, and at most 32,768
use Rattle.std.specs.Prelude.{ℕ, ◌+◌, ◌*◌, ◌/◌, ◌<◌, ◌≤◌, ◌≡◌, refl, Bool, true, ◌&&◌, List, Ok, length}
use Rattle.std.proofs.Common.{sym, ap, ◌∙◌, leb-true, arith, ext_get_or}
use Rattle.std.proofs.Math.Bool.{false, true≢false}
use Rattle.std.proofs.Math.Dec.{leb}
use Rattle.processor_list.specs.Processors.{ProcessorList}
use Rattle.laws.specs.Tabulate.{get_or_tabulate}
use Rattle.laws.specs.Bools.{and_parts, no_true}
use Rattle.std.proofs.Math.ListN.{get_or}
use Rattle.laws.specs.Arrays.{Filled}
use Rattle.laws.specs.Unless.{unless}
use Rattle.update_header.specs.Fields.{total_size}
use Rattle.update_sizes.specs.Sizes.{blocks_of}
use Rattle.store_blocks.specs.Blocks.{block_count}
use Rattle.store_directory.specs.Scan.{size_at, first, directory}
use Rattle.store_directory.specs.Valid.{Owned}
use Rattle.store_directory.proofs.ValidLaws.{store_valid}
use Rattle.store_directory.specs.DirectoryEntries.{start_of, size_of}
use Rattle.store_directory.specs.DirectoryLaws.{Listing}
use Rattle.store_directory.proofs.DirectoryLaws.{listing}
use Rattle.write_marks.specs.StoredUpdates.{Fitting}
use Rattle.write_marks.specs.Against.{touches_by_number, emptied_by_number, within, fills}
use Rattle.write_marks.specs.StoredMarks.{stored_of}
use Rattle.write_marks.specs.declared.Marked.{Marked}
use Rattle.write_outcome.specs.OutcomeBytes.{in_run, cleared_byte, outcome_byte, outcome_bytes}
use Rattle.write_outcome.proofs.ByteLaws.{emptied_same, at_run, outcome_length}
use Rattle.write_outcome.specs.EmptiedEntries.{marked, Entries}
use Rattle.write_outcome.proofs.EmptiedEntries.{entries_of_lem, marked_at}
use Rattle.write_plan.specs.Plan.{Plan, run}
use Rattle.write_plan.specs.declared.Run.{Run}
use Rattle.write_plan.specs.CandidateMarks.{shares_entry}
use Rattle.write_plan.specs.RightMarks.{Marks}
use Rattle.write_call.specs.Write.{touched_at, emptied_at, good_plan, write_plan}
use Rattle.write_call.specs.Planned.{plan_run}
use Rattle.write_call.specs.Storing.{Storing, Storable}

pub can_store : (old : List ℕ) (list : ProcessorList) (cand : List ℕ) (m : Marked) (r : Run) → Ok r ≡ write_plan old list cand → Marks old list cand m → Storing old cand m r.start
can_store old list cand m r e y =
    let x = plan_run old list cand r.start r.emptied (sym e) in
    record { ok = x.store; shared = y.shared; sizes = y.sizes; whole = x.whole; small = x.small; ends = x.ends }

pub storing : (old cand : List ℕ) (m : Marked) (p : Plan) (start emptied : ℕ) → Storable old cand m p → p ≡ run start emptied → Storing old cand m start
unfolding Storable
storing old cand m p start emptied y h = y start emptied h

pub planned_storable : (old : List ℕ) (list : ProcessorList) (cand : List ℕ) (p : Plan) (m : Marked) (k : ℕ) → good_plan old list cand k ≡ write_plan old list cand
    → p ≡ good_plan old list cand k → Marks old list cand m → Storable old cand m p
unfolding Storable
planned_storable old list cand p m k e f y start emptied h =
    let x = plan_run old list cand start emptied (sym e ∙ sym f ∙ h) in
    record { ok = x.store; shared = y.shared; sizes = y.sizes; whole = x.whole; small = x.small; ends = x.ends }

-- a set of first blocks matters only at the updates that own a block outside the run
outcome_same : (old : List ℕ) (t : ℕ) (cand : List ℕ) (start : ℕ) (e f : ℕ → Bool)
    → ((b c : ℕ) → c < block_count old → in_run start (blocks_of t) c ≡ false → Owned old (first old) b c → e b ≡ f b) → length old ≡ block_count old * 2048
    → outcome_bytes old t cand start e ≡ outcome_bytes old t cand start f
unfolding outcome_bytes outcome_byte cleared_byte unless
outcome_same old t cand start e f h long =
    ext_get_or 0 (outcome_bytes old t cand start e) (outcome_bytes old t cand start f) (outcome_length old t cand start e ∙ sym (outcome_length old t cand start f))
    (λ i l.
    let m : i < length old = omega (arith, outcome_length old t cand start e) in
    get_or_tabulate (length old) (outcome_byte old t cand start e) i m ∙ byte i m (in_run start (blocks_of t) (i / 2048)) refl
    ∙ sym (get_or_tabulate (length old) (outcome_byte old t cand start f) i m))
  where
    byte : (i : ℕ) → i < length old → (r : Bool) → in_run start (blocks_of t) (i / 2048) ≡ r → outcome_byte old t cand start e i ≡ outcome_byte old t cand start f i
    byte i m true q = rw q
    byte i m false q = rw (q, emptied_same old e f (i / 2048) (λ b o. h b (i / 2048) (omega arith) q o))

module _ (old cand : List ℕ) (m : Marked) (start : ℕ) (y : Storing old cand m start) where
  entries : Listing old (directory old)
  entries = listing old y.ok (directory old) refl

  long : length old ≡ block_count old * 2048
  long = (store_valid old y.ok).long

  pub entries_for : Entries old m.starts m.sizes m.count
  entries_for = rw (y.shared.starts_are, y.sizes, y.shared.count_is) (entries_of_lem old (directory old) entries long)

  pub entries_fit : Fitting 32 (stored_of m)
  unfolding stored_of
  entries_fit =
      let few = (store_valid old y.ok).few in
      rw (y.shared.starts_are, y.sizes, y.shared.count_is) (record { some = entries.some; inside = λ i l. omega (arith, entries.ends i l) })

  pub emptied_entry : (k i : ℕ) → k ≡ blocks_of (total_size cand) → i < m.count → emptied_by_number (stored_of m) k start i ≡ emptied_at old cand start (start_of (directory old) i)
  unfolding emptied_by_number touches_by_number stored_of emptied_at touched_at shares_entry
  emptied_entry k i e l =
      let n : i < (directory old).count = rw y.shared.count_is at l in
      rw (y.shared.marks.each i l, y.shared.starts_are, y.sizes, entries.sized i n, e)

  -- one with a block outside the run is not overwritten whole
  fills_entry : (k i c : ℕ) → k ≡ blocks_of (total_size cand) → i < m.count → in_run start k c ≡ false → start_of (directory old) i ≤ c → c < start_of (directory old) i + size_at old (start_of (directory old) i)
      → fills (stored_of m) k start i ≡ emptied_at old cand start (start_of (directory old) i)
  unfolding fills within stored_of emptied_by_number
  fills_entry k i c e l out from upto =
      let n : i < (directory old).count = rw y.shared.count_is at l in
      let z : leb start (get_or m.starts i 0) && leb (get_or m.starts i 0 + get_or m.sizes i 0) (start + k) ≡ false =
      no_true (leb start (get_or m.starts i 0) && leb (get_or m.starts i 0 + get_or m.sizes i 0) (start + k)) (λ q. let w = and_parts (leb start (get_or m.starts i 0)) (leb (get_or m.starts i 0 + get_or m.sizes i 0) (start + k)) q in
      let a : start ≤ start_of (directory old) i = rw y.shared.starts_are at (leb-true start (get_or m.starts i 0) w.0) in
      let b : start_of (directory old) i + size_of (directory old) i ≤ start + k = rw (y.shared.starts_are, y.sizes) at (leb-true (get_or m.starts i 0 + get_or m.sizes i 0) (start + k) w.1) in
      let u : start_of (directory old) i + size_at old (start_of (directory old) i) ≤ start + k = rw (← entries.sized i n) b in
      true≢false (sym (at_run start k c (omega arith) (omega arith)) ∙ out)) in
      rw z (emptied_entry k i e l)

  pub stored_bytes : (t k : ℕ) (marks : List Bool) (r : List ℕ) → t ≡ total_size cand → k ≡ blocks_of t → Filled false 32 (fills (stored_of m) k start) m.count marks
      → r ≡ outcome_bytes old t cand start (marked m.starts marks m.count) → r ≡ outcome_bytes old (total_size cand) cand start (emptied_at old cand start)
  stored_bytes t k marks r e f g h =
      h ∙ rw e (outcome_same old (total_size cand) cand start (marked m.starts marks m.count) (emptied_at old cand start)
      (λ b c l out o. at_owned b c (omega (arith, o.from)) out o) long)
    where
      at_owned : (b c : ℕ) → b < block_count old → in_run start (blocks_of (total_size cand)) c ≡ false → Owned old (first old) b c → marked m.starts marks m.count b ≡ emptied_at old cand start b
      at_owned b c l out o =
          let w = entries.every b l o.at in
          let n : w.0 < m.count = omega (arith, w.1, y.shared.count_is) in
          let q : k ≡ blocks_of (total_size cand) = f ∙ ap blocks_of e in
          ap (λ (xs : List ℕ). marked xs marks m.count b) y.shared.starts_are ∙ ap (λ (c : ℕ). marked (directory old).starts marks c b) y.shared.count_is
          ∙ ap (marked (directory old).starts marks (directory old).count) (sym w.2)
          ∙ marked_at old (directory old) marks entries w.0 w.1 ∙ g.each w.0 n
          ∙ fills_entry k w.0 c q n (rw q out) (rw w.2 o.from) (rw w.2 o.upto)
          ∙ ap (emptied_at old cand start) w.2

  pub run_inside : (t : ℕ) → t ≡ total_size cand → (start + blocks_of t) * 2048 ≤ length old
  run_inside t e = rw e (omega (arith, y.ends, long))

  pub whole_lent : (t : ℕ) → t ≡ total_size cand → (t ≤ length cand) × (t ≤ 32768)
  whole_lent t e = rw e (y.whole, y.small)
