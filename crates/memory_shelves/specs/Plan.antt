-- Which calls of a shelf in memory fail: those that were planned.
use Rattle.std.specs.Prelude.{ℕ, Bool, true, false, ◌||◌, ◌&&◌, ◌==◌, List, [], Some, None}
use Rattle.std.specs.List.{list_any}
use Rattle.shelf.specs.Outs.{same_out}
use Rattle.shelf.specs.Counts.{next, count_of, counted, none_counted}
use Rattle.shelf.specs.declared.counts.Counts.{Counts}
use Rattle.shelf.specs.declared.shelves.Out.{Out}
use Rattle.memory_shelves.specs.declared.plan.ShelfCall.{ShelfCall}
use Rattle.memory_shelves.specs.declared.plan.ShelfCall.TheVariants.{Load, Create, Put}
use Rattle.memory_shelves.specs.declared.plan.Failure.{Failure}

-- The planned failures, how many loads, creates and puts were made, and how many puts on each output.
pub record Planned : Type 0 where
  pub failures : List Failure
  pub loads : ℕ
  pub creates : ℕ
  pub puts : ℕ
  pub own_puts : Counts

-- nothing planned, and no call made
abbrev pub nothing_planned : Planned
nothing_planned = record { failures = []; loads = 0; creates = 0; puts = 0; own_puts = none_counted }

abbrev pub same_call : ShelfCall → ShelfCall → Bool
same_call Load Load = true
same_call Create Create = true
same_call (Put None) (Put None) = true
same_call (Put (Some out)) (Put (Some other)) = same_out out other
same_call _ _ = false

-- the nth call of a kind is to fail
abbrev pub is_failure : List Failure → ShelfCall → ℕ → Bool
is_failure failures call nth = list_any (λ failure. same_call failure.call call && (failure.nth == nth)) failures

-- the next load, create or put on an output is to fail
abbrev pub load_fails : Planned → Bool
load_fails p = is_failure p.failures Load (next p.loads)

abbrev pub create_fails : Planned → Bool
create_fails p = is_failure p.failures Create (next p.creates)

abbrev pub put_fails : Planned → Out → Bool
put_fails p out = is_failure p.failures (Put None) (next p.puts)
    || is_failure p.failures (Put (Some out)) (next (count_of p.own_puts out))

-- a plan after a load, a create or a put on an output
abbrev pub after_load : Planned → Planned
after_load p = record p { loads = next p.loads }

abbrev pub after_create : Planned → Planned
after_create p = record p { creates = next p.creates }

abbrev pub after_put : Planned → Out → Planned
after_put p out = record p { puts = next p.puts; own_puts = counted p.own_puts out }
