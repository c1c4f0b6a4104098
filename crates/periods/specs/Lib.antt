-- The least period of a card's words, and a card whose words repeat early.
pub mod WordPeriod
