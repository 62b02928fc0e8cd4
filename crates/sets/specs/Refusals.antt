-- What comes back with a refusal.
use Rattle.std.specs.Prelude.{List, [], ◌∷◌, ℕ, Result, Ok, Err}
use Rattle.sets.specs.declared.refusal.Fault.{Fault}
use Rattle.sets.specs.declared.refusal.Fault.TheVariants.{TooManyJobs, TableLength, HoldLength, SetLength, BeyondJobs, SelfPair, OneWay, ShortFile, WrongMark, WrongVersion, UnknownFlag, WrongLength, EmptyHolds, ShortOutput, PinLength, PinHeld, PinsApart}
use Rattle.sets.specs.declared.refusal.Refusal.{Refusal}
use Rattle.sets.specs.declared.refusal.Refusal.TheVariants.{Alone, WithOne, At}

-- a fault's number in document 01's table
abbrev pub number_of : Fault → ℕ
number_of TooManyJobs = 1
number_of TableLength = 2
number_of HoldLength = 3
number_of SetLength = 4
number_of BeyondJobs = 5
number_of SelfPair = 6
number_of OneWay = 7
number_of ShortFile = 21
number_of WrongMark = 22
number_of WrongVersion = 23
number_of UnknownFlag = 24
number_of WrongLength = 25
number_of EmptyHolds = 26
number_of ShortOutput = 27
number_of PinLength = 40
number_of PinHeld = 41
number_of PinsApart = 42

-- "Comes back": the number, then the values, as row and column
abbrev pub comes_back : Refusal → List ℕ
comes_back (Alone fault) = number_of fault ∷ []
comes_back (WithOne fault a) = number_of fault ∷ a ∷ []
comes_back (At fault place) = number_of fault ∷ place.row ∷ place.column ∷ []

-- nothing comes back where nothing is refused
abbrev pub verdict_of : {A : Type 0} → Result A Refusal → List ℕ
verdict_of (Ok a) = []
verdict_of (Err f) = comes_back f
