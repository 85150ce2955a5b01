-- Passed on to the crates above, which so need not name the crate below.
pub use Rattle.batch_view.specs.Offers.{IsOfferOf}
pub use Rattle.node_kept.specs.Offers.{kept_offer}
