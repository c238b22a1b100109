use Rattle.proc_map.proofs.Reading.{parts, rest_fits}
use Rattle.proc_map.proofs.entry.read.Goals as goal

pub returns-in_err-range : goal.returns-in_err-range
returns-in_err-range c =
    rw c.from_residual-in_err-range.ensures
    (record { cases = λ m h. c.in_err-range.ensures.cases _ _ (parts c.in_ok-words.ensures.cases h).addresses })

pub returns-in_err-offset : goal.returns-in_err-offset
returns-in_err-offset c =
    rw c.from_residual-in_err-offset.ensures
    (record { cases = λ m h. c.in_err-offset.ensures.cases _ (parts c.in_ok-words.ensures.cases h).in_file })

pub returns-in_err-inode : goal.returns-in_err-inode
returns-in_err-inode c =
    rw c.from_residual-in_err-inode.ensures
    (record { cases = λ m h. c.in_err-inode.ensures.cases _ (parts c.in_ok-words.ensures.cases h).numbered })

pub overflow_sub-path_place : goal.overflow_sub-path_place
overflow_sub-path_place c = rest_fits c.in_ok-words.ensures.cases
