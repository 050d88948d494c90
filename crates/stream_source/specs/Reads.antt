-- What the reads of a source come to.
use Rattle.std.specs.Prelude.{ℕ, zero, suc, ◌+◌, ◌-◌, ◌^◌, ◌<◌, min, ◌≡◌, true, false, List, [], length, take, drop, Result, Ok, Err}
use Rattle.descriptors.specs.declared.Failed.{Failed}
use Rattle.descriptors.specs.Counted.{GotWithin}
use Rattle.stream_law.specs.declared.Source.{Source}
use Rattle.stream_law.specs.Sources.{Gives, Leads}
use Rattle.stream_law.specs.Streams.{FrontKept}
use Rattle.stream_source.specs.declared.Read.{Read}

abbrev pub read_to : Result ℕ Failed → Source → Read
read_to got from = record { got = got; from = from }

-- THE CONTRACT of `copy`: as many bytes as there are and fit; they stand at the front
pub record CopiedAs (given : List ℕ) (at : ℕ) (buf' : List ℕ) (r : ℕ) : Type 0 where
  pub count : r ≡ min (length given - at) (length buf')
  pub front : take r buf' ≡ take r (drop at given)

-- how many bytes a read gave
abbrev pub came_of : Result ℕ Failed → ℕ
came_of (Ok n) = n
came_of (Err e) = 0

-- where a source stands, by what its last read gave: no bytes, since it is at its end; or the read failed
abbrev pub StandsBy : List ℕ → Source → Result ℕ Failed → Type 0
StandsBy given from (Ok zero) = Gives given from [] true
StandsBy given from (Ok (suc n)) = Unit {0}
StandsBy given from (Err e) = Gives given from [] false

-- THE CONTRACT of a read into a room that is not empty
pub record ReadAs (given : List ℕ) (from : Source) (room' : List ℕ) (r : Read) : Type 0 where
  pub within : GotWithin (length room') r.got
  pub leads : Leads given from (take (came_of r.got) room') r.from
  pub stands : StandsBy given r.from r.got

-- where the bytes end that came behind those that are kept is a number of the machine
pub record EndsWithin (have : ℕ) (r : Result ℕ Failed) : Type 0 where
  pub ends : (n : ℕ) → r ≡ Ok n → have + n < 2 ^ 64

-- THE CONTRACT of `read_behind`: there was room, what was kept is as it was, and the bytes that came stand behind it
pub record ReadBehind (given : List ℕ) (from : Source) (have : ℕ) (buf buf' : List ℕ) (r : Read) : Type 0 where
  pub room : have < length buf
  pub kept : FrontKept have buf buf'
  pub got : GotWithin (length buf - have) r.got
  pub within : EndsWithin have r.got
  pub leads : Leads given from (take (came_of r.got) (drop have buf')) r.from
  pub stands : StandsBy given r.from r.got

-- there are bytes that the source gives, and then a read fails
pub record Fails (given : List ℕ) (from : Source) : Type 0 where
  pub bytes : List ℕ
  pub gives : Gives given from bytes false

-- THE CONTRACT of `fill`: the bytes that came stand in the buffer, and where it is not full they are all; or a read failed
pub record FilledAs (given : List ℕ) (from : Source) (buf' : List ℕ) (r : Read) : Type 0 where
  pub within : GotWithin (length buf') r.got
  pub leads : (n : ℕ) → r.got ≡ Ok n → Leads given from (take n buf') r.from
  pub all : (n : ℕ) → r.got ≡ Ok n → n < length buf' → Gives given r.from [] true
  pub failed : (e : Failed) → r.got ≡ Err e → Fails given from
