-- Document 01, "The cluster": kinds of a piece, 0 read, 1 put, 2 add. What is neither a read nor a put acts as an add.
use Rattle.std.specs.Prelude.{ℕ, Bool, true, false, eqb}
use Rattle.rules.specs.declared.kinds.Kind.{Kind}
use Rattle.rules.specs.declared.kinds.Kind.TheVariants.{Read, Put, Add}
use Rattle.rules.specs.Choice.{◌if◌else◌}
use Rattle.rules.specs.Pieces.{read, put}

abbrev pub kind_of : ℕ → Kind
kind_of n = Read if eqb n read else Put if eqb n put else Add

-- any kind but a read
abbrev pub writes : Kind → Bool
writes Read = false
writes Put = true
writes Add = true
