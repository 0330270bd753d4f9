-- Replies with a result: done, stuck at depth 3; odd(1), aborted at once by a foreign rule; up(2^127 - 1), aborted at once
-- by what isn't decided.
use Rattle.std.specs.Prelude.{ℕ, List, [], None, codes}
use Rattle.kp_kore.specs.Syntax.{sort_of, no_sorts, KorePattern, application, literal, no_patterns, next_pattern}
use Rattle.kp_kore.specs.Causes.{foreign}
use Rattle.kp_results.specs.Results.{StateParts, stuck, aborted, ExecutedParts, wide_call, Undecided, limit}

abbrev pub done : KorePattern
done = application (codes "Lbldone") no_sorts no_patterns

abbrev pub odd_one : KorePattern
odd_one = application (codes "Lblodd") no_sorts (next_pattern (literal (sort_of (codes "SortInt") no_sorts) (codes "1")) no_patterns)

abbrev pub done_result : ExecutedParts
done_result = record { depth = 3; ending = stuck; state = record { term = done; predicate = None }; nexts = [] }

-- odd(1) is where the foreign rule might apply at once
abbrev pub odd_result : ExecutedParts
odd_result = record { depth = 0; ending = aborted (foreign (codes "TOYS.odd")); state = record { term = odd_one; predicate = None }; nexts = [] }

-- up(2^127 - 1), which is rewritten to up(add(2^127 - 1, 1))
abbrev pub up_last : StateParts
up_last = record { term = application (codes "Lblup") no_sorts (next_pattern (literal (sort_of (codes "SortInt") no_sorts) (codes "170141183460469231731687303715884105727")) no_patterns); predicate = None }

-- the sum leaves signed 128 bits
abbrev pub up_fault : Undecided
up_fault = limit (wide_call (codes "170141183460469231731687303715884105727") (codes "1") (codes "Lbladd"))

-- the bytes of the replies, but for their line feed
abbrev pub done_reply_text : List ℕ
done_reply_text = codes "{\"id\":1,\"jsonrpc\":\"2.0\",\"result\":{\"depth\":3,\"reason\":\"stuck\",\"state\":{\"term\":{\"format\":\"KORE\",\"term\":{\"args\":[],\"name\":\"Lbldone\",\"sorts\":[],\"tag\":\"App\"},\"version\":1}}}}"

abbrev pub odd_reply_text : List ℕ
odd_reply_text = codes "{\"id\":1,\"jsonrpc\":\"2.0\",\"result\":{\"depth\":0,\"foreign-rule\":\"TOYS.odd\",\"reason\":\"aborted\",\"state\":{\"term\":{\"format\":\"KORE\",\"term\":{\"args\":[{\"sort\":{\"args\":[],\"name\":\"SortInt\",\"tag\":\"SortApp\"},\"tag\":\"DV\",\"value\":\"1\"}],\"name\":\"Lblodd\",\"sorts\":[],\"tag\":\"App\"},\"version\":1}}}}"

abbrev pub up_reply_text : List ℕ
up_reply_text = codes "{\"id\":1,\"jsonrpc\":\"2.0\",\"result\":{\"depth\":0,\"limit\":{\"first\":\"170141183460469231731687303715884105727\",\"name\":\"number\",\"second\":\"1\",\"symbol\":\"Lbladd\"},\"reason\":\"aborted\",\"state\":{\"term\":{\"format\":\"KORE\",\"term\":{\"args\":[{\"sort\":{\"args\":[],\"name\":\"SortInt\",\"tag\":\"SortApp\"},\"tag\":\"DV\",\"value\":\"170141183460469231731687303715884105727\"}],\"name\":\"Lblup\",\"sorts\":[],\"tag\":\"App\"},\"version\":1}}}}"
