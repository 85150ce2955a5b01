-- Pieces that are held are those of the row before.
use Rattle.focus_csv.proofs.texts.TextPieces.set.Goals as goal

pub set_billing-requires : goal.set_billing-requires
set_billing-requires c = λ held. (c.requires held).billing

pub set_charge-requires : goal.set_charge-requires
set_charge-requires c = λ held. (c.requires held).charge

pub set_moment-requires : goal.set_moment-requires
set_moment-requires c = λ held. (c.requires held).moment

pub set_single-requires : goal.set_single-requires
set_single-requires c = λ held. (c.requires held).unit

pub set_single-requires-2 : goal.set_single-requires-2
set_single-requires-2 c = λ held. (c.requires held).issuer

pub set_single-requires-3 : goal.set_single-requires-3
set_single-requires-3 c = λ held. (c.requires held).category

pub set_single-requires-4 : goal.set_single-requires-4
set_single-requires-4 c = λ held. (c.requires held).pricing

pub set_seller-requires : goal.set_seller-requires
set_seller-requires c = λ held. (c.requires held).seller

pub set_region-requires : goal.set_region-requires
set_region-requires c = λ held. (c.requires held).region

pub set_single-requires-5 : goal.set_single-requires-5
set_single-requires-5 c = λ held. (c.requires held).resource

pub set_service-requires : goal.set_service-requires
set_service-requires c = λ held. (c.requires held).service

pub set_single-requires-6 : goal.set_single-requires-6
set_single-requires-6 c = λ held. (c.requires held).account
