-- What a statement adds, as the code has it (this project).
use Rattle.ped_tree.specs.Views.{expr_tree}
use Rattle.ped_reduce.specs.declared.sums.Sum.{Sum as CodeSum}
use Rattle.ped_reduce.specs.declared.sums.Sum.TheVariants.{Plus, Minus}
use Rattle.ped_reduce.specs.Sums.{Sum, plus, minus}

-- what is added or taken away, as a plain tree
abbrev pub sum_view : CodeSum → Sum
sum_view (Plus e) = plus (expr_tree e.now)
sum_view (Minus e) = minus (expr_tree e.now)
