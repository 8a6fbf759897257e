-- The index of a store as a call answers it (document 02, One): a bad store is READ_FAILURE, AL 1. Its index is all unused.
--   index_codes          done, or the refusal, for a store that is valid or not
--   codes_ah, codes_al   the codes of the call
--   index_reply          the index of a store, with the codes
use Rattle.std.specs.Prelude.{ℕ, Bool, Result, Ok, Err, List}
use Rattle.laws.specs.Unless.{unless}
use Rattle.store_directory.specs.Scan.{store_ok}
use Rattle.store_index.specs.Index.{index_of}
use Rattle.call_answers.specs.Codes.{success, none}
use Rattle.call_answers.specs.Refusals.{ah_for, al_for}
use Rattle.call_answers.specs.declared.refusal.Refusal.{Refusal}
use Rattle.call_answers.specs.declared.refusal.Refusal.TheVariants.{BadStore}
use Rattle.call_indexed.specs.declared.index.IndexReply.{IndexReply}

unfoldable pub index_codes : Bool → Result (Unit {0}) Refusal
index_codes ok = unless ok (Err BadStore) (Ok tt)

abbrev pub codes_ah : Result (Unit {0}) Refusal → ℕ
codes_ah (Ok u) = success
codes_ah (Err r) = ah_for r

abbrev pub codes_al : Result (Unit {0}) Refusal → ℕ
codes_al (Ok u) = none
codes_al (Err r) = al_for r

unfoldable pub index_reply : List ℕ → IndexReply
index_reply s = record { index = index_of s; codes = index_codes (store_ok s) }
