-- What the functions that cut numbers and lines off a text answer, in the words of Text.antt: a position stands for what follows it.
use Rattle.std.specs.Prelude.{ℕ, zero, suc, ◌+◌, ◌-◌, List, [], ◌∷◌, ◌++◌, Option, Some, None, length, drop}
use Rattle.std.proofs.Math.Option.{Option as Rest, none, some}
use Rattle.orm.specs.Diagram as orm
use Rattle.orm.specs.Reader.{Cut, broken, cut}
use Rattle.orm.specs.Form.{fields, role_fields, limited_role_fields}
use Rattle.orm.specs.Text as text
use Rattle.lexer.specs.declared.Kind.{Kind}
use Rattle.lexer.specs.declared.Kind.TheVariants.{DiagramLine, TypesLine, TypeLine, PredsLine, PredLine, RoleLine, LimitedRoleLine, FreqLine, EndLine}
use Rattle.lexer.specs.declared.numbers.Numeral.{Numeral}

abbrev pub kind_of : Kind → orm.LineKind
kind_of DiagramLine = orm.diagram_line
kind_of TypesLine = orm.types_line
kind_of TypeLine = orm.type_line
kind_of PredsLine = orm.preds_line
kind_of PredLine = orm.pred_line
kind_of RoleLine = orm.role_line
kind_of LimitedRoleLine = orm.limited_role_line
kind_of FreqLine = orm.freq_line
kind_of EndLine = orm.end_line

-- The position behind what is taken off the text from `at` on, so that `rest` is left
abbrev pub behind : List ℕ → ℕ → List ℕ → ℕ
behind s at rest = at + (length (drop at s) - length rest)

-- A number in the text `s`, and what follows it
abbrev pub numeral_of : List ℕ → Option Numeral → text.Numeral
numeral_of s None = text.malformed
numeral_of s (Some n) = text.numeral n.value (drop n.end s)

-- What follows a position, if something ends there
abbrev pub rest_of : List ℕ → Option ℕ → Rest (List ℕ)
rest_of s None = none
rest_of s (Some end) = some (drop end s)

-- What follows a line that is cut off
abbrev pub rest_in : Cut → Rest (List ℕ)
rest_in broken = none
rest_in (cut vs rest) = some rest

-- The bytes of a key and its `=`; proofs/Prefixes.antt shows that they are those of Text.antt
abbrev pub key_of : Kind → List ℕ
key_of DiagramLine = 100 ∷ 105 ∷ 97 ∷ 103 ∷ 114 ∷ 97 ∷ 109 ∷ 61 ∷ []
key_of TypesLine = 116 ∷ 121 ∷ 112 ∷ 101 ∷ 115 ∷ 61 ∷ []
key_of TypeLine = 116 ∷ 121 ∷ 112 ∷ 101 ∷ 61 ∷ []
key_of PredsLine = 112 ∷ 114 ∷ 101 ∷ 100 ∷ 115 ∷ 61 ∷ []
key_of PredLine = 112 ∷ 114 ∷ 101 ∷ 100 ∷ 61 ∷ []
key_of RoleLine = 114 ∷ 111 ∷ 108 ∷ 101 ∷ 61 ∷ []
key_of LimitedRoleLine = 114 ∷ 111 ∷ 108 ∷ 101 ∷ 61 ∷ []
key_of FreqLine = 102 ∷ 114 ∷ 101 ∷ 113 ∷ 61 ∷ []
key_of EndLine = 101 ∷ 110 ∷ 100 ∷ 61 ∷ []

abbrev pub fields_of : Kind → ℕ
fields_of DiagramLine = 1
fields_of TypesLine = 1
fields_of TypeLine = 6
fields_of PredsLine = 1
fields_of PredLine = 4
fields_of RoleLine = role_fields
fields_of LimitedRoleLine = limited_role_fields
fields_of FreqLine = 2
fields_of EndLine = 1

-- The numbers of a line up to the first fault: of n numbers those that are well formed, each with what has to follow it
unfoldable pub sound_numbers : ℕ → List ℕ → List ℕ
sound_numbers zero s = []
sound_numbers (suc n) s =
    elim (text.number s) [
      | text.malformed ↦ []
      | text.numeral v s₁ ↦ elim (text.after (text.separator n ∷ []) s₁) [ none ↦ [] | some s₂ ↦ v ∷ sound_numbers n s₂ ]
    ]

-- Of a line of this kind: without its key there are none
unfoldable pub line_numbers : orm.LineKind → List ℕ → List ℕ
line_numbers k s =
    elim (text.after (text.bytes (text.key k) ++ 61 ∷ []) s) [ none ↦ [] | some rest ↦ sound_numbers (fields k) rest ]
