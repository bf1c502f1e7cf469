mod Called
mod Feeds
