-- The representation types of TYPE and their arguments (RFC 959, section 3.1.1 and section 5.3.1). Assumes nothing.
use Rattle.std.specs.Prelude.{ℕ, List, [], ◌∷◌, decimal}
use Rattle.command.specs.declared.types.FileType.{FileType}
use Rattle.command.specs.declared.types.FileType.TheVariants.{Ascii, Ebcdic, Image, Binary, Local}
use Rattle.command.specs.declared.types.FormatControl.{FormatControl}
use Rattle.command.specs.declared.types.FormatControl.TheVariants.{Default, NonPrint, Telnet, Asa}

-- N, T or C; without a word of it a text is not meant for printing
abbrev pub format_letter : FormatControl → ℕ
format_letter Default = 78
format_letter NonPrint = 78
format_letter Telnet = 84
format_letter Asa = 67

-- A or E with a format, I, or L with the bits of a byte
abbrev pub type_text : FileType → List ℕ
type_text (Ascii control) = 65 ∷ 32 ∷ format_letter control ∷ []
type_text (Ebcdic control) = 69 ∷ 32 ∷ format_letter control ∷ []
type_text Image = 73 ∷ []
type_text Binary = 73 ∷ []
type_text (Local bits) = 76 ∷ 32 ∷ decimal bits
