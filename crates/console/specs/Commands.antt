-- The commands of the listening bench, a line each:
--     programme N | object N | gain N V | offset N V | list | state
-- N is 0 to 65535, V is -32768 to 32767 tenths, or `silence` for a gain. Any other line is none. Assumes nothing.
use Rattle.std.specs.Prelude.{ℕ, cond, List, [], ◌∷◌, ℤ, Option, Some, None}
use Rattle.values.specs.declared.Gain as values
use Rattle.text.specs.Bytes.{ascii, same}
use Rattle.text.specs.Numbers.{number_of, tenths_of, gain_value_of}
use Rattle.text.specs.Lines.{fields}
use Rattle.console.specs.declared.commands.Call.TheVariants.{Programme, Object, Gain, Offset}
use Rattle.console.specs.declared.commands.Command.{Command}
use Rattle.console.specs.declared.commands.Command.TheVariants as command

-- list | state
unfoldable pub alone : List ℕ → Option Command
alone name = cond (same name (ascii "list")) (Some command.List) (cond (same name (ascii "state")) (Some command.State) None)

-- programme N | object N
unfoldable pub with_number : List ℕ → Option ℕ → Option Command
with_number name None = None
with_number name (Some n) =
    cond (same name (ascii "programme")) (Some (command.Call (Programme n))) (cond (same name (ascii "object")) (Some (command.Call (Object n))) None)

unfoldable pub gain_command : ℕ → Option values.Gain → Option Command
gain_command n None = None
gain_command n (Some g) = Some (command.Call (Gain n g))

unfoldable pub offset_command : ℕ → Option ℤ → Option Command
offset_command n None = None
offset_command n (Some z) = Some (command.Call (Offset n z))

-- gain N V | offset N V
unfoldable pub with_value : List ℕ → Option ℕ → List ℕ → Option Command
with_value name None value = None
with_value name (Some n) value =
    cond (same name (ascii "gain")) (gain_command n (gain_value_of value))
    (cond (same name (ascii "offset")) (offset_command n (tenths_of value)) None)

-- by the number of fields
unfoldable pub command_by : List (List ℕ) → Option Command
command_by [] = None
command_by (name ∷ []) = alone name
command_by (name ∷ n ∷ []) = with_number name (number_of n)
command_by (name ∷ n ∷ value ∷ []) = with_value name (number_of n) value
command_by (name ∷ n ∷ value ∷ more ∷ fs) = None

-- the command that a line says
unfoldable pub command_of : List ℕ → Option Command
command_of line = command_by (fields line)
