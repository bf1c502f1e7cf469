mod Joined
mod Sharing
mod Walks
