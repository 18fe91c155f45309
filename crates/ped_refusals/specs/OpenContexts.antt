-- What the code keeps of the statements before one, as a plain context. Only contracts of private functions use it.
use Rattle.std.specs.Prelude.{◌≡◌, ℕ, List}
use Rattle.ped_print.specs.Lengths.{limited}
use Rattle.ped_base.specs.Lists.{is_among}
use Rattle.ped_tree.specs.Grammar.Contexts as plain
use Rattle.ped_refusals.specs.OpenBlocks.{blocks_of}
use Rattle.ped_refusals.specs.declared.contexts.Context.{Context}

-- what is open and what has come, with each constant once
abbrev pub context_of : Context → plain.Context
context_of c = record {
  phase = c.phase;
  blocks = blocks_of c.blocks.items;
  statements = c.statements;
  constants = c.constants;
  saves_names = c.saves_names;
  saves_everything = c.saves_everything;
  behind_do = c.behind_do;
}

-- two contexts differ at most in how often they name a constant, and in numbers of statements that 64 bits don't hold
pub record IsLike (c d : plain.Context) : Type 0 where
  pub phase : c.phase ≡ d.phase
  pub blocks : c.blocks ≡ d.blocks
  pub statements : limited c.statements ≡ limited d.statements
  pub constants : (x : List ℕ) → is_among x c.constants ≡ is_among x d.constants
  pub saves_names : c.saves_names ≡ d.saves_names
  pub saves_everything : c.saves_everything ≡ d.saves_everything
  pub behind_do : c.behind_do ≡ d.behind_do
