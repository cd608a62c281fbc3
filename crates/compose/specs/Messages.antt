-- What a refusal says, byte by byte. Assumes nothing.
use Rattle.std.specs.Prelude.{ℕ, List, ◌++◌, codes, decimal}
use Rattle.compose.specs.declared.refusal.Fault.{Fault}
use Rattle.compose.specs.declared.refusal.Refusal.{Refusal}
use Rattle.compose.specs.declared.refusal.Refusal.TheVariants.{NoMemory, Text}
use Rattle.compose.specs.declared.refusal.Wrong.{Wrong}
use Rattle.compose.specs.declared.refusal.Wrong.TheVariants.{Expected, UnknownRequest, NotALetter, NotANumber, OutOfRange, MissingWord, ExtraWord, TooLong}
use Rattle.compose.specs.Settings.{name_of}

abbrev pub wrong_text : Wrong → List ℕ
wrong_text (Expected s) = codes "the line of `" ++ (name_of s ++ codes "` should stand here")
wrong_text UnknownRequest = codes "a request begins with `r` or `w`"
wrong_text NotALetter = codes "a pile is one letter"
wrong_text NotANumber = codes "a word is no number"
wrong_text OutOfRange = codes "a number is out of range"
wrong_text MissingWord = codes "a word is missing"
wrong_text ExtraWord = codes "there is a word too many"
wrong_text TooLong = codes "the file would be longer than 65536 bytes"

-- the number of the line, and what is wrong with it
abbrev pub fault_text : Fault → List ℕ
fault_text x = codes "line " ++ (decimal x.line ++ (codes ": " ++ wrong_text x.wrong))

abbrev pub refusal_text : Refusal → List ℕ
refusal_text NoMemory = codes "there is no memory for the file"
refusal_text (Text x) = fault_text x
