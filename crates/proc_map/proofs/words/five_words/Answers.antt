use Rattle.proc_map.specs.Line.{no_more, one_more}
use Rattle.proc_map.proofs.Reading.{next_words, no_words}
use Rattle.proc_map.proofs.words.five_words.Goals as goal

pub returns-in_err-address : goal.returns-in_err-address
returns-in_err-address c =
    rw c.from_residual.ensures (record { cases = λ _ _ _ _ _ _ h. no_words c.in_err-address.ensures.cases h })

pub returns-in_err-perms : goal.returns-in_err-perms
returns-in_err-perms c =
    rw c.from_residual-in_err-perms.ensures
    (record {
      cases = λ _ _ _ _ _ _ h.
          let h = (next_words c.in_ok-address.ensures.cases h).1 in
          no_words c.in_err-perms.ensures.cases h;
    })

pub returns-in_err-offset : goal.returns-in_err-offset
returns-in_err-offset c =
    rw c.from_residual-in_err-offset.ensures
    (record {
      cases = λ _ _ _ _ _ _ h.
          let h = (next_words c.in_ok-address.ensures.cases h).1 in
          let h = (next_words c.in_ok-perms.ensures.cases h).1 in
          no_words c.in_err-offset.ensures.cases h;
    })

pub returns-in_err-dev : goal.returns-in_err-dev
returns-in_err-dev c =
    rw c.from_residual-in_err-dev.ensures
    (record {
      cases = λ _ _ _ _ _ _ h.
          let h = (next_words c.in_ok-address.ensures.cases h).1 in
          let h = (next_words c.in_ok-perms.ensures.cases h).1 in
          let h = (next_words c.in_ok-offset.ensures.cases h).1 in
          no_words c.in_err-dev.ensures.cases h;
    })

pub returns-in_err-inode : goal.returns-in_err-inode
returns-in_err-inode c =
    rw c.from_residual-in_err-inode.ensures
    (record {
      cases = λ _ _ _ _ _ _ h.
          let h = (next_words c.in_ok-address.ensures.cases h).1 in
          let h = (next_words c.in_ok-perms.ensures.cases h).1 in
          let h = (next_words c.in_ok-offset.ensures.cases h).1 in
          let h = (next_words c.in_ok-dev.ensures.cases h).1 in
          no_words c.in_err-inode.ensures.cases h;
    })

pub returns : goal.returns
returns c =
    record {
      cases = one_more c.in_ok-address.ensures.cases (one_more c.in_ok-perms.ensures.cases (one_more c.in_ok-offset.ensures.cases (one_more c.in_ok-dev.ensures.cases (one_more c.in_ok-inode.ensures.cases no_more))));
    }
