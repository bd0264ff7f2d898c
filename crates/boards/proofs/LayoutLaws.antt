-- Lists of their lengths, by the test and as facts.
use Rattle.std.proofs.Common.{◌≡◌, true, rules, tests}
use Rattle.boards.specs.Layout.{Lists, lists_ok, Sized}

pub sized-by : (l : Lists) → lists_ok l ≡ true → Sized l
unfolding lists_ok
sized-by l e =
    record {
      bytes-len = search (rules, tests);
      links-len = search (rules, tests);
      keys-len = search (rules, tests);
      cents-len = search (rules, tests);
    }

pub sized-ok : (l : Lists) → Sized l → lists_ok l ≡ true
unfolding lists_ok
sized-ok l e = rw (e.bytes-len, e.links-len, e.keys-len, e.cents-len)
