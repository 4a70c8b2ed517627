-- Answers with their bytes, and lines with the commands that they say, computed. What is expected was written down by hand. Assumes nothing.
use Prim.Native.String.{String}
use Rattle.std.specs.Prelude.{◌≡◌, refl, true, false, [], ◌∷◌, map, pos, negsuc, set, replicate, Some, None, Ok, Err}
use Rattle.values.specs.declared.Gain.TheVariants.{Silent, Tenths}
use Rattle.values.specs.Gain.{at_most}
use Rattle.profile.specs.Counting.{concat_below}
use Rattle.granted.specs.Fitting.{same_gain, same_offset}
use Rattle.listener.specs.declared.Refusal.TheVariants.{NotIncluded}
use Rattle.listener.specs.State.{state_objects, resting, setting, is_resting}
use Rattle.text.specs.Bytes.{ascii, same, join}
use Rattle.text.specs.Decimal.{spelled, decimal, signed_decimal, gain_text}
use Rattle.text.specs.Numbers.{is_digit, digits, value, is_number, number_of, positive, negative, tenths_of, gain_value_of}
use Rattle.text.specs.Lines.{without_return, said, is_blank, fields_from, fields}
use Rattle.console.specs.declared.commands.Call.TheVariants.{Programme, Object, Gain, Offset}
use Rattle.console.specs.declared.commands.Command.TheVariants.{Call, List as Listing, State as Settings}
use Rattle.console.specs.Commands.{alone, with_number, gain_command, offset_command, with_value, command_by, command_of}
use Rattle.console.specs.Answers.{answer_line, words_text, tracks_line, activity_text, name_text, values_text, setting_line, object_line, object_lines, state_lines}

pub answer_lines :
    answer_line (Ok tt) ∷ answer_line (Err NotIncluded) ∷ tracks_line (0 ∷ 1 ∷ 65535 ∷ []) (Ok tt) ∷ tracks_line [] (Err NotIncluded) ∷ []
    ≡ ascii "done\n" ∷ ascii "refused 28\n" ∷ ascii "tracks 0 1 65535\n" ∷ ascii "refused 28\n" ∷ []
unfolding answer_line tracks_line words_text join decimal spelled
answer_lines = refl

pub state_lines_lem :
    state_lines (record {
      programme = 9;
      objects =
          set (set (replicate state_objects resting) 3 (record { active = true; gain = Tenths (negsuc 59); offset = pos 0 })) 83
          (record { active = false; gain = Silent; offset = negsuc 0 });
    })
    ≡ ascii "programme 9\nobject 3 active gain -60 offset 0\nobject 83 inactive gain silence offset -1\n"
unfolding state_lines object_lines object_line setting_line name_text values_text activity_text gain_text join decimal spelled signed_decimal concat_below setting is_resting same_gain same_offset at_most
state_lines_lem = refl

pub commands_said :
    map (λ (line : String). command_of (said (ascii line)))
    ("programme 3"
    ∷ " \tobject  00065535 \r"
    ∷ "gain 0 -32768"
    ∷ "gain 4 silence"
    ∷ "offset 4 32767"
    ∷ "list"
    ∷ "state\r"
    ∷ ""
    ∷ "List"
    ∷ "list 1"
    ∷ "programme 65536"
    ∷ "programme +1"
    ∷ "gain 1 -32769"
    ∷ "gain 1 -"
    ∷ "offset 4 silence"
    ∷ "gain 1 1 1"
    ∷ [])
    ≡ Some (Call (Programme 3))
    ∷ Some (Call (Object 65535))
    ∷ Some (Call (Gain 0 (Tenths (negsuc 32767))))
    ∷ Some (Call (Gain 4 Silent))
    ∷ Some (Call (Offset 4 (pos 32767)))
    ∷ Some Listing
    ∷ Some Settings
    ∷ None
    ∷ None
    ∷ None
    ∷ None
    ∷ None
    ∷ None
    ∷ None
    ∷ None
    ∷ None
    ∷ []
unfolding command_of command_by alone with_number gain_command offset_command with_value fields fields_from is_blank said without_return is_number number_of tenths_of gain_value_of positive negative digits value is_digit same
commands_said = refl
