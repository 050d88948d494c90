-- Each field is what its call answers.
use Rattle.state_law.specs.Trades.{with_trade}
use Rattle.state.proofs.trades.with_trade.Goals as goal

pub returns : goal.returns
unfolding with_trade
returns c = cc
