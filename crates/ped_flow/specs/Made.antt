-- How an entry is made of a part. Only contracts of private functions use this definition.
use Rattle.std.specs.Prelude.{◌≡◌, ℕ, false}
use Rattle.ped_flow.specs.Summaries.{passing}
use Rattle.ped_flow.specs.RowPlaces.{bit}
use Rattle.ped_flow.specs.Rows.{Holds}
use Rattle.ped_flow.specs.declared.summaries.Summary.{Summary}
use Rattle.ped_flow.specs.declared.parts.Part.{Part}
use Rattle.ped_flow.specs.declared.entries.Entry.{Entry}

-- an entry has this part and this number after it; at a place that isn't touched the part does nothing
pub record IsMade (given : Part) (number : ℕ) (e : Entry) : Type 0 where
  pub part : e.part ≡ given
  pub behind : e.behind ≡ number
  pub touched : (i : ℕ) (m : Summary) → Holds given.summaries i m → bit e.touched i ≡ false → m ≡ passing
