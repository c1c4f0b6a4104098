-- What the selector needs of a card.
pub mod Terms
