-- What a fault of the outside is to the callers of `load` and `put_all` (this project).
use Rattle.std.specs.Prelude.{ℕ}
use Rattle.ped_io.specs.declared.outside.OutsideFault.{OutsideFault}
use Rattle.ped_io.specs.declared.outside.OutsideFault.TheVariants as outside
use Rattle.ped_io.specs.declared.loading.LoadError.{LoadError}
use Rattle.ped_io.specs.declared.loading.LoadError.TheVariants as load
use Rattle.ped_io.specs.declared.writing.PutFault.{PutFault}
use Rattle.ped_io.specs.declared.writing.PutFault.TheVariants as put

-- a failed read is a fault of the read, and out of memory stays out of memory
abbrev pub load_fault : OutsideFault → LoadError
load_fault outside.Failed = load.ReadFault
load_fault outside.NoMemory = load.NoMemory

-- how many bytes were taken before the fault
abbrev pub sent_of : PutFault → ℕ
sent_of (put.WriteFault sent) = sent
sent_of (put.NoMemory sent) = sent

-- the sink failed
abbrev pub IsWriteFault : PutFault → Type 0
IsWriteFault (put.WriteFault sent) = Unit {0}
IsWriteFault (put.NoMemory sent) = ⊥
