use Rattle.std.proofs.Common.{ℕ, ◌≤◌, List, length}
use Rattle.serv_http.specs.Conns.{StandsFor}
use Rattle.serv_http.proofs.FeedLemmas.{IsSoFar}
use Rattle.serv_http.proofs.conn.Conn.feed.Given as goal

abbrev pub invariant-loop-count : goal.invariant-loop-count
invariant-loop-count l = record {
  within : l.at ≤ length l.piece;
  few : length l.asks.items ≤ l.count;
  so_far : (s : List ℕ) → StandsFor l.fn.self s → IsSoFar l.piece l.at l.count l.asks.items l.self s;
}
