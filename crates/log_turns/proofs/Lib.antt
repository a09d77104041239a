pub mod StandingLemmas
pub mod ExchangeLemmas
pub mod TurnedLemmas
pub mod ValueLemmas
pub mod ChangingLemmas
pub mod DifferingLemmas
