-- The worked examples, computed.
use Rattle.std.proofs.Common.{◌≡◌, ℕ, suc, false, List, [], ◌∷◌, Some, refl, ap, ◌∙◌, nat_lt, arith}
use Rattle.std.proofs.lemmas.Bool.Decides.{nat_tests}
use Rattle.utf8.specs.Utf8.{utf8}
use Rattle.format.specs.Numbers.{number_of}
use Rattle.format.specs.declared.refusal.Refusal.{Refusal}
use Rattle.format.specs.declared.refusal.ReadError.TheVariants as error
use Rattle.bunser.specs.Outcome.{at}
use Rattle.bunser.specs.Reads.{header_read, capabilities_read, length_read, magic_read, count_read, tagged_int_read}
use Rattle.bunser.specs.Texts.{text_read}
use Rattle.room.specs.KeyList.{key_list_read}
use Rattle.de.specs.declared.event.Event.{Event}
use Rattle.de.specs.declared.pdu.PduInfo.{PduInfo}
use Rattle.de.specs.Steps.{step, coming, item_comes, tagged, int_comes, tag_comes, array_comes, template_comes, rows_come, text_comes, text_step}
use Rattle.de.specs.Calls.{State, Answered, gave, told, cut}
use Rattle.runs.specs.Examples.{opening, next_of, held, passing, Gives, refusal_in, Refuses, NextRefuses}
use Rattle.runs.proofs.examples_hold.Goals as goal

-- a call that is refused tells its refusal
refuses : {A : Type 0} (m : Answered A) (f : Refusal) → refusal_in m ≡ Some f → Refuses m (number_of f.cause) f
refuses (gave a s) f e = absurd (cc)
refuses (told g s) f e = record { refused = e; tells = λ r t h. (cc (h.0), ap (λ (u : State). u.refused) h.1 ∙ e) }
refuses (cut g s) f e = record { refused = e; tells = λ r t h. (cc (h.0), h.1.refused ∙ e) }

abbrev given : {file : List ℕ} {es : List Event} {p : PduInfo} → opening file ≡ gave p (held (opening file)) → (passing file es).0 ≡ es → Gives file es
given opens events = record { token = _; opens = opens; events = events }

next_refused : {file : List ℕ} {es : List Event} {f : Refusal} → Gives file es → refusal_in (next_of (passing file es).1) ≡ Some f → NextRefuses file es (number_of f.cause) f
next_refused gives refused = record { gives = gives; refuses = refuses _ _ refused }

-- two bytes come
magic_comes : (n : ℕ) → nat_lt (suc (suc n)) 2 ≡ false
magic_comes n = grind (arith, nat_tests)

other_magic : (rest : List ℕ) → refusal_in (opening (0x00 ∷ 0x01 ∷ rest)) ≡ Some (at (error.Magic (0x00 ∷ 0x01 ∷ [])) 0)
unfolding header_read magic_read
other_magic rest = rw magic_comes

pub returns : goal.returns
unfolding header_read capabilities_read length_read magic_read count_read tagged_int_read step coming item_comes tagged array_comes template_comes rows_come key_list_read text_comes text_step text_read utf8 tag_comes int_comes
returns c = record {
  row_without_keys = next_refused (given refl refl) refl;
  key_list_of_another_tag = next_refused (given refl refl) refl;
  gap_in_array = next_refused (given refl refl) refl;
  negative_count = next_refused (given refl refl) refl;
  overlong_text = next_refused (given refl refl) refl;
  overlong_bytes = given refl refl;
  overlong_shown = refl;
  arrays_to_last_level = given refl refl;
  array_past_last_level = next_refused (given refl refl) refl;
  key_list_at_last_level = given refl refl;
  key_list_past_last_level = next_refused (given refl refl) refl;
  value_short_of_end = record { gives = given refl refl; done = refl; refuses = refuses _ _ refl };
  value_past_end = next_refused (given refl refl) refl;
  value_past_end_by = refl;
  another_version = λ rest. refuses _ _ (other_magic rest);
}
