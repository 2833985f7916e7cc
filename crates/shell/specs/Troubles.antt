-- What the system's numbers and typed words that are refused are told as.
use Rattle.std.specs.Prelude.{ℤ, pos, if◌then◌else◌}
use Rattle.std.specs.Ordering.{int_eq}
use Rattle.shell.specs.declared.trouble.Part.TheVariants.{Hex}
use Rattle.shell.specs.declared.trouble.Reason.{Reason}
use Rattle.shell.specs.declared.trouble.Reason.TheVariants.{NoFile, NoPermission, NoFolder, Folder}
use Rattle.shell.specs.declared.trouble.Reason.TheVariants.{DiskFull, ReadOnly, PathLong, Other}
use Rattle.shell.specs.declared.trouble.Refusal.TheVariants.{ItemTooBig}
use Rattle.shell.specs.declared.trouble.Trouble.{Trouble}
use Rattle.shell.specs.declared.trouble.Trouble.TheVariants.{Bad, Refused}
use Rattle.tool.specs.declared.hex.HexError.{HexError}
use Rattle.tool.specs.declared.hex.HexError.TheVariants.{Bad as BadHex, Long}

-- the reason that a number of Linux stands for
abbrev pub reason_of : ℤ → Reason
reason_of number =
    if int_eq number (pos 2) then NoFile
    else if int_eq number (pos 13) then NoPermission
    else if int_eq number (pos 20) then NoFolder
    else if int_eq number (pos 21) then Folder
    else if int_eq number (pos 28) then DiskFull
    else if int_eq number (pos 30) then ReadOnly
    else if int_eq number (pos 36) then PathLong
    else Other

-- the trouble with a typed value that is not taken
abbrev pub value_trouble : HexError → Trouble
value_trouble BadHex = Bad Hex
value_trouble Long = Refused ItemTooBig
