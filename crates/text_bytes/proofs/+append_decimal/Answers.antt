use Rattle.std.proofs.Common.{rules}
use Rattle.text_bytes.proofs.Laws.{one_inside, put_one, tenth_inside, ten_inside, put_ten}
use Rattle.text_bytes.proofs.+append_decimal.Goals as goal

-- src/lib.rt:42:9
pub append_digit-requires : goal.append_digit-requires
append_digit-requires t c = search (rules, one_inside)

-- src/lib.rt:42:9
pub returns-then-n-lt10 : goal.returns-then-n-lt10
returns-then-n-lt10 t c = search (rules, put_one)

-- src/lib.rt:44:9
pub append_decimal-end-requires : goal.append_decimal-end-requires
append_decimal-end-requires t c = (search rules, search (rules, tenth_inside))

-- src/lib.rt:45:5
pub append_digit-requires-2 : goal.append_digit-requires-2
append_digit-requires-2 t c = search (rules, ten_inside)

-- src/lib.rt:37:1
pub returns : goal.returns
returns t c = search (rules, put_ten)
